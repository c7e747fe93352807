-- The walk over the clones that share with an object, and the end of it.
use Rattle.std.proofs.Common.{◌≡◌, ℕ, ◌<◌, ◌≤◌, true, ◌≢◌, ◌⊎◌, List, [], length, set, sym, refl, ap, ◌∙◌, subst, inl, inr, ⊎_elim, arith, length-set, get_or-set_other, get_or-set_same}
use lib.Seq.{set-get_or}
use Rattle.std.proofs.lemmas.Bool.{cases_eq, cases_order}
use Rattle.store.specs.declared.areas.Areas.{Areas}
use Rattle.store.specs.declared.closures.Method.{Method}
use Rattle.store.specs.Areas.{SameCounts}
use Rattle.store.specs.Layout.{part, laid, objects_in}
use Rattle.store.proofs.Objects.{same_map}
use Rattle.store.proofs.Spans.{no_span}
use Rattle.sharing_store.specs.declared.entries.SharedEntry.{SharedEntry}
use Rattle.sharing_store.specs.declared.table.SharingStore.{SharingStore}
use Rattle.sharing_store.specs.Views.{no_entry, entry_at, own_span, held_span, laid_out, View, view, Filled, Sound}
use Rattle.sharing_store.specs.States.{entry, shown, with_held, OnlyFills, Fills, Walked}
use Rattle.sharing_store.proofs.Steps.{relisted, unlist}
use Rattle.sharing_store.proofs.Sounds.{sound_tells}

pub same_counts : (s : Areas SharedEntry) → SameCounts s s
same_counts s = record { object_count_is = refl; method_count_is = refl; object_limit_is = refl; method_limit_is = refl }

pub fills_none : (s : SharingStore) → OnlyFills s s
fills_none s = record { counts = same_counts s.areas; objects_are = refl; entries_are = λ k. refl; stay_filled = λ k f. f }

pub counts_then : (s t u : Areas SharedEntry) → SameCounts s t → SameCounts t u → SameCounts s u
counts_then s t u a b = record {
  object_count_is = b.object_count_is ∙ a.object_count_is;
  method_count_is = b.method_count_is ∙ a.method_count_is;
  object_limit_is = b.object_limit_is ∙ a.object_limit_is;
  method_limit_is = b.method_limit_is ∙ a.method_limit_is;
}

pub fills_then : (s t u : SharingStore) → OnlyFills s t → OnlyFills t u → OnlyFills s u
fills_then s t u a b = record {
  counts = counts_then s.areas t.areas u.areas a.counts b.counts;
  objects_are = b.objects_are ∙ a.objects_are;
  entries_are = λ k. b.entries_are k ∙ ap (λ (e : SharedEntry). with_held e (entry u k).held) (a.entries_are k);
  stay_filled = λ k f. b.stay_filled k (a.stay_filled k f);
}

pub sd_of : (s : SharingStore) → Sound (shown s) s.areas.object_count
sd_of s = sound_tells s.areas.objects.now s.areas.object_count s.shares

pub walk_begins : (s : SharingStore) (l : ℕ) → l < s.areas.object_count → Filled (shown s) l → Walked s s l (entry s l).last
walk_begins s l lt f =
    let e = sd_of s l lt in
    record {
      only = fills_none s;
      in_use = e.last_low;
      is_filled = f;
      ours = e.last_ours;
      done = λ k low q. subst (λ (r : ℕ). Filled (shown s) k ⊎ (k ≤ (entry s r).last)) q (sd_of s k low).listed;
      idle = λ q. (q, record { entries_are = refl; methods_are = refl });
    }

module _ (s t u : SharingStore) (l at : ℕ) (w : Walked s t l at) (f : Fills t u at) (other : at ≢ l) where
  root_same : (k : ℕ) → (entry u k).root ≡ (entry t k).root
  root_same k = ap (λ (e : SharedEntry). e.root) (f.only.entries_are k)

  ours_still : (entry u at).root ≡ l
  ours_still = root_same at ∙ ⊎_elim (λ q. absurd (other q)) (λ q. q) w.ours

  in_use_still : at < u.areas.object_count
  in_use_still = omega (arith, w.in_use, f.only.counts.object_count_is)

  pub falls : (entry u at).previous < at
  falls = ⊎_elim (λ q. absurd (other (sym q ∙ ours_still))) (λ h. h) (sd_of u at in_use_still).previous_falls

  pub walk_goes_on : Walked s u l (entry u at).previous
  walk_goes_on =
      let e = sd_of u at in_use_still in
      record {
        only = fills_then s t u w.only f.only;
        in_use = omega (arith, e.previous_low, in_use_still);
        is_filled = f.only.stay_filled l w.is_filled;
        ours = ⊎_elim (λ q. inl (q ∙ ours_still)) (λ q. inr (q ∙ ours_still)) e.previous_ours;
        done = λ k low q.
            ⊎_elim
            (λ same. inl (subst (λ (x : ℕ). Filled (shown u) x) (sym same) f.now_filled))
            (λ o. ⊎_elim
            (λ less. e.listed_before k less (q ∙ sym ours_still))
            (λ more. ⊎_elim (λ g. inl (f.only.stay_filled k g)) (λ h. absurd (omega arith)) (w.done k (omega (arith, f.only.counts.object_count_is)) (sym (root_same k) ∙ q)))
            o)
            (cases_order k at);
        idle = λ q. absurd (other (w.idle q).0);
      }

pub walk_ends : (s t : SharingStore) (l : ℕ) → Walked s t l l → (k : ℕ) → k < t.areas.object_count → (entry t k).root ≡ l → Filled (shown t) k
walk_ends s t l w k low q =
    ⊎_elim (λ f. f)
    (λ h. let same : l ≡ k = omega (arith, (sd_of t k low).root_low) in subst (λ (x : ℕ). Filled (shown t) x) same w.is_filled)
    (w.done k low q)

abbrev pub with_last : SharedEntry → ℕ → SharedEntry
with_last e x = record { first = e.first; size = e.size; held = e.held; root = e.root; last = x; previous = e.previous }

-- the list of l is emptied
module _ (es : List SharedEntry) (ms : List Method) (n : ℕ) (fits : n ≤ length es) (l : ℕ) (lt : l < n) where
  abbrev empty : SharedEntry
  empty = with_last (entry_at es l) l

  abbrev after : List SharedEntry
  after = set es l empty

  at_l : entry_at after l ≡ empty
  at_l = get_or-set_same es l empty no_entry (omega arith)

  at_other : (k : ℕ) → k ≢ l → entry_at after k ≡ entry_at es k
  at_other k ne = get_or-set_other es l k empty no_entry ne

  pub emptied_is : (entry_at after l).last ≡ l
  emptied_is = ap (λ (x : SharedEntry). x.last) at_l

  pub already_empty : (entry_at es l).last ≡ l → after ≡ es
  already_empty q = ap (λ (x : ℕ). set es l (with_last (entry_at es l) x)) (sym q) ∙ set-get_or es l no_entry

  pub entries_but : (k : ℕ) → entry_at after k ≡ with_last (entry_at es k) (entry_at after k).last
  entries_but k =
      ⊎_elim
      (λ q. subst (λ (x : ℕ). entry_at after x ≡ with_last (entry_at es x) (entry_at after x).last) (sym q) (at_l ∙ ap (with_last (entry_at es l)) (sym (ap (λ (x : SharedEntry). x.last) at_l))))
      (λ ne. at_other k ne ∙ ap (with_last (entry_at es k)) (sym (ap (λ (x : SharedEntry). x.last) (at_other k ne))))
      (cases_eq k l)

  lasts : (k : ℕ) → ((entry_at after k).last ≡ (entry_at es k).last) ⊎ ((k ≡ l) × ((entry_at after k).last ≡ l))
  lasts k =
      ⊎_elim
      (λ q. inr (q, ap (λ (x : ℕ). (entry_at after x).last) q ∙ ap (λ (x : SharedEntry). x.last) at_l))
      (λ ne. inl (ap (λ (x : SharedEntry). x.last) (at_other k ne)))
      (cases_eq k l)

  seen : view after ≡ relisted (view es) (λ k. (entry_at after k).last)
  seen = λ i. record {
    first = λ k. (entries_but k i).first;
    size = λ k. (entries_but k i).size;
    held = λ k. (entries_but k i).held;
    root = λ k. (entries_but k i).root;
    last = λ k. (entry_at after k).last;
    previous = λ k. (entries_but k i).previous;
  }

  fits_after : n ≤ length after
  fits_after = omega (arith, length-set es l empty)

  pub laid_after : (end : ℕ) → laid_out es n end ≡ true → laid_out after n end ≡ true
  laid_after end ok = ap (λ rs. laid 0 rs end) (same_map no_entry no_span after es n fits_after fits own_span own_span (λ k low. ap own_span (entries_but k))) ∙ ok

  pub objects_after : objects_in held_span after n ms ≡ objects_in held_span es n ms
  objects_after = same_map no_entry [] after es n fits_after fits (λ e. part ms (held_span e)) (λ e. part ms (held_span e)) (λ k low. ap (λ e. part ms (held_span e)) (entries_but k))

  pub sound_after : ((k : ℕ) → k < n → (entry_at es k).root ≡ l → Filled (view es) k) → Sound (view es) n → Sound (view after) n
  sound_after alone sd = subst (λ (v : View). Sound v n) (sym seen) (unlist (view es) (λ k. (entry_at after k).last) n l lt lasts alone sd)
