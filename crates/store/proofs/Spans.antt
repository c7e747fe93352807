-- Spans that follow one another, and the parts of a method area.
use Rattle.std.proofs.Common.{slice_get, ◌≡◌, ℕ, zero, suc, ◌+◌, ◌-◌, ◌<◌, ◌≤◌, true, List, [], ◌∷◌, ◌++◌, length, get_or, take, drop, set, None, sym, ap, ◌∙◌, arith, length-drop, length-take, get_or-drop, get_or-take, drop-set-lt, eq-eqb}
use lib.Seq.{take-set-le, take-set-lt, drop-set-add}
use Rattle.std.proofs.lemmas.Bool.{and_from}
use Rattle.std.proofs.lemmas.Bool.Decides.{nat_tests}
use Rattle.std.proofs.lemmas.Option.{slice_get_past}
use Rattle.store.specs.declared.closures.Method.{Method}
use Rattle.store.specs.declared.layout.Span.{Span}
use Rattle.store.specs.Layout.{part, laid}

-- what is read past an end
abbrev pub no_span : Span
no_span = record { first = 0; size = 0 }

abbrev pub no_method : Method
no_method = record { label = 0; closure = record { list = 0; env = 0 } }

pub laid_head : (from : ℕ) (s : Span) (ss : List Span) (end : ℕ) → laid from (s ∷ ss) end ≡ true → (s.first ≡ from) × (laid (from + s.size) ss end ≡ true)
laid_head from s ss end h = (grind (arith, nat_tests), grind (arith, nat_tests))

laid_end : (from : ℕ) (ss : List Span) (end : ℕ) → laid from ss end ≡ true → from ≤ end
laid_end from [] end h = grind (arith, nat_tests)
laid_end from (s ∷ ss) end h = let r = laid_end (from + s.size) ss end (laid_head from s ss end h).1 in omega arith

pub laid_bounds : (from : ℕ) (ss : List Span) (end k : ℕ) → laid from ss end ≡ true → k < length ss → (from ≤ (get_or ss k no_span).first) × ((get_or ss k no_span).first + (get_or ss k no_span).size ≤ end)
laid_bounds from [] end k h lt = absurd (omega arith)
laid_bounds from (s ∷ ss) end zero h lt =
    let t = laid_head from s ss end h in
    let r = laid_end (from + s.size) ss end t.1 in
    (omega arith, omega arith)
laid_bounds from (s ∷ ss) end (suc k) h lt =
    let t = laid_head from s ss end h in
    let r = laid_bounds (from + s.size) ss end k t.1 (omega arith) in
    (omega arith, omega arith)

pub laid_order : (from : ℕ) (ss : List Span) (end j k : ℕ) → laid from ss end ≡ true → j < k → k < length ss → (get_or ss j no_span).first + (get_or ss j no_span).size ≤ (get_or ss k no_span).first
laid_order from [] end j k h low lt = absurd (omega arith)
laid_order from (s ∷ ss) end j zero h low lt = absurd (omega arith)
laid_order from (s ∷ ss) end zero (suc k) h low lt =
    let t = laid_head from s ss end h in
    let b = laid_bounds (from + s.size) ss end k t.1 (omega arith) in
    omega arith
laid_order from (s ∷ ss) end (suc j) (suc k) h low lt =
    laid_order (from + s.size) ss end j k (laid_head from s ss end h).1 (omega arith) (omega arith)

pub laid_push : (from : ℕ) (ss : List Span) (end : ℕ) (s : Span) → laid from ss end ≡ true → s.first ≡ end → laid from (ss ++ s ∷ []) (end + s.size) ≡ true
laid_push from [] end s h k = grind (arith, nat_tests)
laid_push from (x ∷ ss) end s h k =
    let t = laid_head from x ss end h in
    and_from _ _ (eq-eqb x.first from t.0) (laid_push (from + x.size) ss end s t.1 k)

module _ (ms : List Method) (s : Span) where
  pub length_part : s.first + s.size ≤ length ms → length (part ms s) ≡ s.size
  length_part h = simp (length-take, length-drop) (omega arith)

  pub get_d_part : (p : ℕ) (d : Method) → p < s.size → get_or (part ms s) p d ≡ get_or ms (s.first + p) d
  get_d_part p d h = rw (get_or-take, get_or-drop)

  module _ (within : s.first + s.size ≤ length ms) (p : ℕ) where
    pub no_method_there : s.size ≤ p → None ≡ slice_get (part ms s) p
    no_method_there le = sym (slice_get_past (part ms s) p (omega (arith, length_part within)))

-- a write to one method
module _ (ms : List Method) (v : Method) (s : Span) where
  pub part_past : (k : ℕ) → s.first + s.size ≤ k → part (set ms k v) s ≡ part ms s
  part_past k h =
      let split : s.first + (k - s.first) ≡ k = omega arith in
      let far : s.size ≤ k - s.first = omega arith in
      ap (λ i. take s.size (drop s.first (set ms i v))) (sym split) ∙ ap (take s.size) (drop-set-add s.first ms (k - s.first) v) ∙ take-set-le s.size (drop s.first ms) (k - s.first) v far

  pub part_before : (k : ℕ) → k < s.first → part (set ms k v) s ≡ part ms s
  part_before k h = ap (take s.size) (drop-set-lt s.first ms k v h)

  pub part_set : (p : ℕ) → p < s.size → part (set ms (s.first + p) v) s ≡ set (part ms s) p v
  part_set p h = ap (take s.size) (drop-set-add s.first ms p v) ∙ take-set-lt s.size (drop s.first ms) p v h
