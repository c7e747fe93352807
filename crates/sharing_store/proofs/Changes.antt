-- What the changes of the areas in fill and free leave of a sharing store.
use Rattle.std.proofs.Common.{◌≡◌, ℕ, ◌<◌, ◌≤◌, true, List, length, set, sym, ap, ◌∙◌, subst, arith}
use lib.Seq.{paste}
use Rattle.store.specs.declared.areas.Areas.{Areas}
use Rattle.store.specs.Areas.{Changed, SameCounts}
use Rattle.store.specs.declared.layout.Span.{Span}
use Rattle.store.specs.Layout.{part, objects_in}
use Rattle.sharing_store.specs.declared.entries.SharedEntry.{SharedEntry}
use Rattle.sharing_store.specs.declared.table.SharingStore.{SharingStore}
use Rattle.sharing_store.specs.Views.{held_span, laid_out, sound, view, Filled, entry_at}
use Rattle.sharing_store.specs.States.{entry, shown, with_held, Fills, Walked, Freed}
use Rattle.sharing_store.proofs.Sounds.{sound_from}
use Rattle.sharing_store.proofs.Fillings as filling
use Rattle.sharing_store.proofs.Walks as walk
use Rattle.sharing_store.proofs.Walks.{counts_then, with_last, sd_of}

-- the methods that l shares copied into its space, as t, and its entry e changed, as u
module _ (s : SharingStore) (l : ℕ) (lt : l < s.areas.object_count) (e : SharedEntry) (e_is : e ≡ entry s l) (other : e.held ≡ e.first → ⊥) (y : Span) (y_is : y ≡ held_span e) (t : Areas SharedEntry) (w : Changed s.areas t s.areas.objects.now (paste s.areas.methods.now e.first (part s.areas.methods.now y) y.size)) where
  fits : s.areas.object_count ≤ length s.areas.objects.now
  fits = omega arith

  room : s.areas.method_count ≤ length s.areas.methods.now
  room = omega arith

  un : Filled (shown s) l → ⊥
  un = subst (λ (x : SharedEntry). x.held ≡ x.first → ⊥) e_is other

  methods_are : t.methods.now ≡ paste s.areas.methods.now (entry s l).first (part s.areas.methods.now (held_span (entry s l))) (entry s l).size
  methods_are =
      w.methods_are
      ∙ ap (λ (z : Span). paste s.areas.methods.now e.first (part s.areas.methods.now z) z.size) y_is
      ∙ ap (λ (x : SharedEntry). paste s.areas.methods.now x.first (part s.areas.methods.now (held_span x)) x.size) e_is

  module _ (u : Areas SharedEntry) (p : Changed t u (set t.objects.now l (with_held e e.first)) t.methods.now) where
    entries_are : u.objects.now ≡ set s.areas.objects.now l (with_held (entry s l) (entry s l).first)
    entries_are = p.entries_are ∙ ap (λ es. set es l (with_held e e.first)) w.entries_are ∙ ap (λ (x : SharedEntry). set s.areas.objects.now l (with_held x x.first)) e_is

    counts : SameCounts s.areas u
    counts = counts_then s.areas t u w.counts p.counts

    pub fill_laid : laid_out u.objects.now u.object_count u.method_count ≡ true
    fill_laid =
        (λ i. laid_out (entries_are i) (counts.object_count_is i) (counts.method_count_is i))
        ∙ filling.laid_after s.areas.objects.now s.areas.methods.now s.areas.object_count fits s.areas.method_count s.laid_out room (sd_of s) l lt un

    pub fill_sound : sound u.objects.now u.object_count ≡ true
    fill_sound =
        (λ i. sound (entries_are i) (counts.object_count_is i))
        ∙ sound_from _ s.areas.object_count (filling.sound_after s.areas.objects.now s.areas.methods.now s.areas.object_count fits s.areas.method_count s.laid_out room (sd_of s) l lt un)

  pub fills_it : (z : SharingStore) → Changed t z.areas (set t.objects.now l (with_held e e.first)) t.methods.now → Fills s z l
  fills_it z p =
      let es = s.areas.objects.now in
      let ms = s.areas.methods.now in
      let n = s.areas.object_count in
      let end = s.areas.method_count in
      let is = entries_are z.areas p in
      let same = counts z.areas p in
      record {
        only = record {
          counts = same;
          objects_are = (λ i. objects_in held_span (is i) (same.object_count_is i) ((p.methods_are ∙ methods_are) i)) ∙ filling.objects_after es ms n fits end s.laid_out room (sd_of s) l lt un;
          entries_are = subst (λ (fs : List SharedEntry). (x : ℕ) → entry_at fs x ≡ with_held (entry_at es x) (entry_at fs x).held) (sym is) (filling.entries_only es ms n fits end s.laid_out room (sd_of s) l lt un);
          stay_filled = subst (λ (fs : List SharedEntry). (x : ℕ) → Filled (view es) x → Filled (view fs) x) (sym is) (filling.stays_filled es ms n fits end s.laid_out room (sd_of s) l lt un);
        };
        now_filled = subst (λ (fs : List SharedEntry). Filled (view fs) l) (sym is) (filling.filled_now es ms n fits end s.laid_out room (sd_of s) l lt un);
        idle = λ f. absurd (un f);
      }

-- the list of l, whose entry is e, emptied at the end of the walk, as u
module _ (r s t : SharingStore) (l at : ℕ) (f : Fills r s l) (walked : Walked s t l at) (at_is : at ≡ l) (e : SharedEntry) (e_is : e ≡ entry t l) where
  w : Walked s t l l
  w = subst (λ (x : ℕ). Walked s t l x) at_is walked

  low : t.areas.object_count ≤ length t.areas.objects.now
  low = omega arith

  module _ (u : Areas SharedEntry) (p : Changed t.areas u (set t.areas.objects.now l (with_last e l)) t.areas.methods.now) where
    emptied_as : u.objects.now ≡ set t.areas.objects.now l (with_last (entry t l) l)
    emptied_as = p.entries_are ∙ ap (λ (x : SharedEntry). set t.areas.objects.now l (with_last x l)) e_is

    pub free_laid : laid_out u.objects.now u.object_count u.method_count ≡ true
    free_laid =
        (λ i. laid_out (emptied_as i) (p.counts.object_count_is i) (p.counts.method_count_is i))
        ∙ walk.laid_after t.areas.objects.now t.areas.methods.now t.areas.object_count low l w.in_use t.areas.method_count t.laid_out

    pub free_sound : sound u.objects.now u.object_count ≡ true
    free_sound =
        (λ i. sound (emptied_as i) (p.counts.object_count_is i))
        ∙ sound_from _ t.areas.object_count (walk.sound_after t.areas.objects.now t.areas.methods.now t.areas.object_count low l w.in_use (walk.walk_ends s t l w) (sd_of t))

  pub frees_it : (z : SharingStore) → Changed t.areas z.areas (set t.areas.objects.now l (with_last e l)) t.areas.methods.now → Freed r z l
  frees_it z p =
      let es = t.areas.objects.now in
      let ms = t.areas.methods.now in
      let n = t.areas.object_count in
      let is = emptied_as z.areas p in
      let o = walk.fills_then r s t f.only w.only in
      let same : (k : ℕ) → entry z k ≡ with_last (entry t k) (entry z k).last = subst (λ (fs : List SharedEntry). (k : ℕ) → entry_at fs k ≡ with_last (entry_at es k) (entry_at fs k).last) (sym is) (walk.entries_but es ms n low l w.in_use) in
      record {
        counts = counts_then r.areas t.areas z.areas o.counts p.counts;
        objects_are = (λ i. objects_in held_span (is i) (p.counts.object_count_is i) (p.methods_are i)) ∙ walk.objects_after es ms n low l w.in_use ∙ o.objects_are;
        first_is = ap (λ (x : SharedEntry). x.first) (same l) ∙ ap (λ (x : SharedEntry). x.first) (o.entries_are l);
        size_is = ap (λ (x : SharedEntry). x.size) (same l) ∙ ap (λ (x : SharedEntry). x.size) (o.entries_are l);
        is_filled = ap (λ (x : SharedEntry). x.held) (same l) ∙ w.is_filled ∙ sym (ap (λ (x : SharedEntry). x.first) (same l));
        alone = λ x in_use q. ap (λ (y : SharedEntry). y.held) (same x) ∙ walk.walk_ends s t l w x (omega (arith, p.counts.object_count_is)) (sym (ap (λ (y : SharedEntry). y.root) (same x)) ∙ q) ∙ sym (ap (λ (y : SharedEntry). y.first) (same x));
        emptied = ap (λ (fs : List SharedEntry). (entry_at fs l).last) is ∙ walk.emptied_is es ms n low l w.in_use;
        idle = λ g q.
            let a = f.idle g in
            let q' : (entry s l).last ≡ l = ap (λ (fs : List SharedEntry). (entry_at fs l).last) a.entries_are ∙ q in
            let b = (w.idle q').1 in
            let both : es ≡ r.areas.objects.now = b.entries_are ∙ a.entries_are in
            record {
              entries_are = is ∙ walk.already_empty es ms n low l w.in_use (ap (λ (fs : List SharedEntry). (entry_at fs l).last) both ∙ q) ∙ both;
              methods_are = p.methods_are ∙ b.methods_are ∙ a.methods_are;
            };
      }
