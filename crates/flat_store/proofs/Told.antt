-- What a flat store's entries say of its meaning.
use Rattle.std.proofs.Common.{◌≡◌, ℕ, ◌+◌, ◌<◌, ◌≤◌, true, ◌≢◌, ◌⊎◌, List, [], ◌∷◌, ◌++◌, length, get_or, set, refl, ap, ◌∙◌, inl, inr, ⊎_elim, arith, length-set, get_or-set_other, get_or-set_same}
use lib.Seq.{paste}
use Rattle.std.proofs.lemmas.Bool.{cases_order}
use Rattle.store.specs.declared.areas.Areas.{Areas}
use Rattle.store.specs.declared.closures.Method.{Method}
use Rattle.store.specs.declared.layout.Span.{Span}
use Rattle.store.specs.Areas.{Changed, Added}
use Rattle.store.specs.Layout.{part, objects_in}
use Rattle.store.specs.Meaning.{Meaning, no_trial, with_objects}
use Rattle.store.proofs.Spans.{no_span}
use Rattle.store.proofs.Writes.{cut_before, cut_new}
use Rattle.store.proofs.Tells.{Tells}
use Rattle.store.proofs.Objects.{own_in, own_order, tells_of, one_set, laid_more, objects_more}
use Rattle.flat_store.specs.declared.table.FlatStore.{FlatStore}
use Rattle.flat_store.specs.Flat.{flat_meaning}
use Rattle.flat_store.specs.Layout.{laid_out}

abbrev pub same : Span → Span
same e = e

module _ (s : FlatStore) where
  abbrev pub span : ℕ → Span
  span l = get_or s.areas.objects.now l no_span

  fits : s.areas.object_count ≤ length s.areas.objects.now
  fits = omega arith

  pub span_in : (l : ℕ) → l < s.areas.object_count → (span l).first + (span l).size ≤ s.areas.method_count
  span_in = own_in no_span s.areas.objects.now s.areas.object_count fits same s.areas.method_count s.laid_out

  pub told : Tells (flat_meaning s) s.areas.object_count s.areas.method_count span s.areas.methods.now
  told = tells_of no_span same same (λ e. refl) s.areas.objects.now s.areas.object_count fits s.areas.methods.now s.areas.method_count s.laid_out (omega arith) span_in s.areas.object_limit s.areas.method_limit

  apart : (l k : ℕ) → l < s.areas.object_count → k < s.areas.object_count → k ≢ l → ((span k).first + (span k).size ≤ (span l).first) ⊎ ((span l).first + (span l).size ≤ (span k).first)
  apart l k lt lt' other =
      let order = own_order no_span s.areas.objects.now s.areas.object_count fits same s.areas.method_count s.laid_out in
      ⊎_elim (λ q. absurd (other q)) (λ o. ⊎_elim (λ low. inl (order k l low lt)) (λ high. inr (order l k high lt')) o) (cases_order k l)

  -- a write to one method of an object
  pub set_one : (l : ℕ) → l < s.areas.object_count → (p : ℕ) → p < (span l).size → (v : Method) → objects_in same s.areas.objects.now s.areas.object_count (set s.areas.methods.now ((span l).first + p) v) ≡ set (flat_meaning s).objects l (set (part s.areas.methods.now (span l)) p v)
  set_one l lt p low v = one_set no_span s.areas.objects.now s.areas.object_count fits same same s.areas.methods.now l p lt low (λ k lt' other. apart l k lt lt' other) v

-- what is meant when the methods alone have changed
pub kept : (s : FlatStore) (t : Areas Span) (ms : List Method) → Changed s.areas t s.areas.objects.now ms → ◌≡◌ {A = Meaning} (record { objects = objects_in same t.objects.now t.object_count t.methods.now; object_limit = t.object_limit; method_limit = t.method_limit; trial = no_trial }) (with_objects (flat_meaning s) (objects_in same s.areas.objects.now s.areas.object_count ms))
kept s t ms w = λ i. record { objects = objects_in same (w.entries_are i) (w.counts.object_count_is i) (w.methods_are i); object_limit = w.counts.object_limit_is i; method_limit = w.counts.method_limit_is i; trial = no_trial }

-- s with the methods ms written past those in use, as t, and then with an object more that has them, as u
module _ (s : FlatStore) (t u : Areas Span) (ms : List Method) (n : ℕ) (w : Changed s.areas t s.areas.objects.now (paste s.areas.methods.now s.areas.method_count ms n)) (e : Span) (first : e.first ≡ s.areas.method_count) (size : e.size ≡ n) (a : Added t u e e.size) (long : n ≡ length ms) (lt : s.areas.object_count < s.areas.object_limit) (fit : s.areas.method_count + n ≤ s.areas.method_limit) where
  abbrev more : List Span
  more = set s.areas.objects.now s.areas.object_count e

  entries_are : u.objects.now ≡ more
  entries_are = a.entries_are ∙ (λ i. set (w.entries_are i) (w.counts.object_count_is i) e)

  count_is : u.object_count ≡ s.areas.object_count + 1
  count_is = a.object_count_is ∙ ap (λ k. k + 1) w.counts.object_count_is

  used_is : u.method_count ≡ s.areas.method_count + e.size
  used_is = a.method_count_is ∙ ap (λ k. k + e.size) w.counts.method_count_is

  at_n : get_or more s.areas.object_count no_span ≡ e
  at_n = get_or-set_same s.areas.objects.now s.areas.object_count e no_span (omega arith)

  before : (k : ℕ) → k < s.areas.object_count → get_or more k no_span ≡ span s k
  before k low = get_or-set_other s.areas.objects.now s.areas.object_count k e no_span (omega arith)

  pub laid_after : laid_out u.objects.now u.object_count u.method_count ≡ true
  laid_after =
      (λ i. laid_out (entries_are i) (count_is i) (used_is i))
      ∙ laid_more no_span s.areas.objects.now more s.areas.object_count (omega arith) (omega (arith, length-set s.areas.objects.now s.areas.object_count e)) e at_n same before s.areas.method_count s.laid_out first

  objects_are : objects_in same u.objects.now u.object_count u.methods.now ≡ (flat_meaning s).objects ++ ms ∷ []
  objects_are =
      let d = s.areas.methods.now in
      let at = s.areas.method_count in
      let within : at ≤ length d = omega arith in
      (λ i. objects_in same (entries_are i) (count_is i) ((a.methods_are ∙ w.methods_are) i))
      ∙ objects_more no_span s.areas.objects.now more s.areas.object_count (omega arith) (omega (arith, length-set s.areas.objects.now s.areas.object_count e)) e at_n same d (paste d at ms n) ms
      (λ k low. ap (part (paste d at ms n)) (before k low) ∙ cut_before d at ms n within long (span s k) (span_in s k low))
      (ap (part (paste d at ms n)) (λ i. record { first = first i; size = size i }) ∙ cut_new d at ms n within long)

  pub meaning_after : ◌≡◌ {A = Meaning} (record { objects = objects_in same u.objects.now u.object_count u.methods.now; object_limit = u.object_limit; method_limit = u.method_limit; trial = no_trial }) (with_objects (flat_meaning s) ((flat_meaning s).objects ++ ms ∷ []))
  meaning_after = λ i. record { objects = objects_are i; object_limit = (a.object_limit_is ∙ w.counts.object_limit_is) i; method_limit = (a.method_limit_is ∙ w.counts.method_limit_is) i; trial = no_trial }
