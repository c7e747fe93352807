-- What the changes of the areas in make leave of a sharing store.
use Rattle.std.proofs.Common.{◌≡◌, ℕ, ◌+◌, ◌<◌, ◌≤◌, true, List, [], ◌∷◌, ◌++◌, length, set, refl, ap, ◌∙◌, arith, length-set}
use lib.Seq.{paste}
use Rattle.store.specs.declared.areas.Areas.{Areas}
use Rattle.store.specs.declared.closures.Method.{Method}
use Rattle.store.specs.Areas.{Changed, Added}
use Rattle.store.specs.Layout.{objects_in}
use Rattle.store.specs.Meaning.{Meaning, no_trial, with_objects}
use Rattle.store.proofs.Objects.{laid_more, objects_more}
use Rattle.store.proofs.Writes.{cut_before, cut_new}
use Rattle.sharing_store.specs.declared.entries.SharedEntry.{SharedEntry}
use Rattle.sharing_store.specs.declared.table.SharingStore.{SharingStore}
use Rattle.sharing_store.specs.Views.{no_entry, own_span, held_span, laid_out, sound}
use Rattle.sharing_store.specs.States.{sharing_meaning}
use Rattle.sharing_store.proofs.Sounds.{sound_from}
use Rattle.sharing_store.proofs.Walks.{sd_of}
use Rattle.sharing_store.proofs.More.{put_at, put_agrees, put_made}
use Rattle.sharing_store.proofs.Told.{span, held_fits, held_same, own_same}

abbrev pub new_entry : ℕ → ℕ → ℕ → SharedEntry
new_entry at size n = record { first = at; size = size; held = at; root = n; last = n; previous = n }

-- the methods ms written past those that are reserved, as t, and an object more that has them, with the entry e, as u
module _ (s : SharingStore) (t u : Areas SharedEntry) (ms : List Method) (n : ℕ) (w : Changed s.areas t s.areas.objects.now (paste s.areas.methods.now s.areas.method_count ms n)) (e : SharedEntry) (e_is : e ≡ new_entry s.areas.method_count n s.areas.object_count) (size : ℕ) (size_is : size ≡ n) (a : Added t u e size) (long : n ≡ length ms) (lt : s.areas.object_count < s.areas.object_limit) where
  abbrev made : SharedEntry
  made = new_entry s.areas.method_count n s.areas.object_count

  space : s.areas.object_count < length s.areas.objects.now
  space = omega arith

  entries_are : u.objects.now ≡ set s.areas.objects.now s.areas.object_count made
  entries_are = a.entries_are ∙ (λ i. set (w.entries_are i) (w.counts.object_count_is i) (e_is i))

  count_is : u.object_count ≡ s.areas.object_count + 1
  count_is = a.object_count_is ∙ ap (λ k. k + 1) w.counts.object_count_is

  used_is : u.method_count ≡ s.areas.method_count + n
  used_is = a.method_count_is ∙ (λ i. w.counts.method_count_is i + size_is i)

  pub make_laid : laid_out u.objects.now u.object_count u.method_count ≡ true
  make_laid =
      let es = s.areas.objects.now in
      let k = s.areas.object_count in
      (λ i. laid_out (entries_are i) (count_is i) (used_is i))
      ∙ laid_more no_entry es (set es k made) k (omega arith) (omega (arith, length-set es k made)) made (put_at es k space made) own_span (λ j low. own_same es (set es k made) j (put_agrees es k space made j low)) s.areas.method_count s.laid_out refl

  pub make_sound : sound u.objects.now u.object_count ≡ true
  make_sound =
      let es = s.areas.objects.now in
      let k = s.areas.object_count in
      (λ i. sound (entries_are i) (count_is i)) ∙ sound_from (set es k made) (k + 1) (put_made es k space made (sd_of s) refl refl refl refl)

  pub make_meant : ◌≡◌ {A = Meaning} (record { objects = objects_in held_span u.objects.now u.object_count u.methods.now; object_limit = u.object_limit; method_limit = u.method_limit; trial = no_trial }) (with_objects (sharing_meaning s) ((sharing_meaning s).objects ++ ms ∷ []))
  make_meant =
      let es = s.areas.objects.now in
      let d = s.areas.methods.now in
      let k = s.areas.object_count in
      let at = s.areas.method_count in
      let in_area : at ≤ length d = omega arith in
      let objects =
      (λ i. objects_in held_span (entries_are i) (count_is i) ((a.methods_are ∙ w.methods_are) i))
      ∙ objects_more no_entry es (set es k made) k (omega arith) (omega (arith, length-set es k made)) made (put_at es k space made) held_span d (paste d at ms n) ms
      (λ j low. held_same es (set es k made) (paste d at ms n) j (put_agrees es k space made j low) ∙ cut_before d at ms n in_area long (span s j) (held_fits s j low))
      (cut_new d at ms n in_area long) in
      λ i. record { objects = objects i; object_limit = (a.object_limit_is ∙ w.counts.object_limit_is) i; method_limit = (a.method_limit_is ∙ w.counts.method_limit_is) i; trial = no_trial }
