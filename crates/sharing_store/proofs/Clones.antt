-- What the changes of the areas in clone leave of a sharing store.
use Rattle.std.proofs.Common.{◌≡◌, ℕ, ◌+◌, ◌<◌, true, List, [], ◌∷◌, ◌++◌, length, set, refl, ap, ◌∙◌, arith}
use Rattle.store.specs.declared.areas.Areas.{Areas}
use Rattle.store.specs.Areas.{Changed, Added}
use Rattle.store.specs.Layout.{part, objects_in}
use Rattle.store.specs.Meaning.{Meaning, no_trial, with_objects}
use Rattle.store.proofs.Objects.{laid_more, objects_more}
use Rattle.sharing_store.specs.declared.entries.SharedEntry.{SharedEntry}
use Rattle.sharing_store.specs.declared.table.SharingStore.{SharingStore}
use Rattle.sharing_store.specs.Views.{no_entry, own_span, held_span, laid_out, sound}
use Rattle.sharing_store.specs.States.{sharing_meaning, entry, RootOf}
use Rattle.sharing_store.proofs.Sounds.{sound_from}
use Rattle.sharing_store.proofs.Walks.{with_last, sd_of}
use Rattle.sharing_store.proofs.More.{joined, join_at, join_agrees, join_room, join_sound}
use Rattle.sharing_store.proofs.Told.{span, held_same, own_same}

-- the entry of r changed to g, as t, and an object more that shares with it, with the entry e, as u
abbrev pub clone_entry : (s : SharingStore) (l r : ℕ) → SharedEntry
clone_entry s l r = record { first = s.areas.method_count; size = (entry s l).size; held = (entry s l).held; root = r; last = s.areas.object_count; previous = (entry s r).last }

module _ (s : SharingStore) (l : ℕ) (in_use : l < s.areas.object_count) (r : ℕ) (o : RootOf s l r) (lt : s.areas.object_count < s.areas.object_limit) (t u : Areas SharedEntry) (g : SharedEntry) (g_is : g ≡ with_last (entry s r) s.areas.object_count) (p : Changed s.areas t (set s.areas.objects.now r g) s.areas.methods.now) (e : SharedEntry) (e_is : e ≡ clone_entry s l r) (size : ℕ) (size_is : size ≡ (entry s l).size) (a : Added t u e size) where
  space : s.areas.object_count < length s.areas.objects.now
  space = omega arith

  old : r < s.areas.object_count
  old = omega (arith, o.low)

  abbrev after : List SharedEntry
  after = joined s.areas.objects.now s.areas.object_count space (clone_entry s l r) r old

  entries_are : u.objects.now ≡ after
  entries_are =
      a.entries_are ∙ (λ i. set (p.entries_are i) (p.counts.object_count_is i) e)
      ∙ ap (λ (x : SharedEntry). set (set s.areas.objects.now r x) s.areas.object_count e) g_is
      ∙ ap (λ (x : SharedEntry). set (set s.areas.objects.now r (with_last (entry s r) s.areas.object_count)) s.areas.object_count x) e_is

  count_is : u.object_count ≡ s.areas.object_count + 1
  count_is = a.object_count_is ∙ ap (λ k. k + 1) p.counts.object_count_is

  used_is : u.method_count ≡ s.areas.method_count + (entry s l).size
  used_is = a.method_count_is ∙ (λ i. p.counts.method_count_is i + size_is i)

  pub clone_laid : laid_out u.objects.now u.object_count u.method_count ≡ true
  clone_laid =
      let es = s.areas.objects.now in
      let n = s.areas.object_count in
      let new = clone_entry s l r in
      (λ i. laid_out (entries_are i) (count_is i) (used_is i))
      ∙ laid_more no_entry es after n (omega arith) (join_room es n space new r old) new (join_at es n space new r old) own_span (λ k low. own_same es after k (join_agrees es n space new r old k low)) s.areas.method_count s.laid_out refl

  pub clone_sound : sound u.objects.now u.object_count ≡ true
  clone_sound =
      let es = s.areas.objects.now in
      let n = s.areas.object_count in
      let new = clone_entry s l r in
      (λ i. sound (entries_are i) (count_is i))
      ∙ sound_from after (n + 1) (join_sound es n space new r old refl o.root_size o.root_first refl refl o.root_filled (sd_of s))

  pub clone_meant : ◌≡◌ {A = Meaning} (record { objects = objects_in held_span u.objects.now u.object_count u.methods.now; object_limit = u.object_limit; method_limit = u.method_limit; trial = no_trial }) (with_objects (sharing_meaning s) ((sharing_meaning s).objects ++ part s.areas.methods.now (span s l) ∷ []))
  clone_meant =
      let es = s.areas.objects.now in
      let ms = s.areas.methods.now in
      let n = s.areas.object_count in
      let new = clone_entry s l r in
      let objects =
      (λ i. objects_in held_span (entries_are i) (count_is i) ((a.methods_are ∙ p.methods_are) i))
      ∙ objects_more no_entry es after n (omega arith) (join_room es n space new r old) new (join_at es n space new r old) held_span ms ms (part ms (span s l)) (λ k low. held_same es after ms k (join_agrees es n space new r old k low)) refl in
      λ i. record { objects = objects i; object_limit = (a.object_limit_is ∙ p.counts.object_limit_is) i; method_limit = (a.method_limit_is ∙ p.counts.method_limit_is) i; trial = no_trial }
