-- Methods written one by one from a place on: `paste d at s n` is d with the first n of s written from `at` on.
use Rattle.std.proofs.Common.{◌≡◌, ℕ, ◌+◌, ◌-◌, ◌<◌, ◌≤◌, List, ◌++◌, length, get_or, take, drop, set, sym, ap, ◌∙◌, append_assoc, arith, length-take-le, take_all, take-take}
use lib.Seq.{paste, take-append-le}
use Rattle.std.proofs.lemmas.List.{get_or-map, length-map, drop-drop, drop-take, drop_at, take_at}
use Rattle.std.proofs.lemmas.List.Edits.{paste_more, drop-paste}
use Rattle.calculus.specs.declared.code.MethodEntry.{MethodEntry}
use Rattle.store.specs.declared.closures.Method.{Method}
use Rattle.store.specs.declared.layout.Span.{Span}
use Rattle.store.specs.Layout.{part}
use Rattle.store.specs.Meaning.{method_of, methods_of}
use Rattle.store.proofs.Spans.{no_method}

-- one method more
one_more : (d c : List Method) (at : ℕ) (s : List Method) (i : ℕ) (m : Method) → c ≡ paste d at s i → at + i < length d → i < length s → m ≡ get_or s i no_method → set c (at + i) m ≡ paste d at s (i + 1)
one_more d c at s i m e h k is = ap (λ l. set l (at + i) m) e ∙ ap (set (paste d at s i) (at + i)) is ∙ paste_more d at s i no_method h k

-- the next method of the entries
pub entry_more : (d c : List Method) (at : ℕ) (es : List MethodEntry) (env i : ℕ) (x : MethodEntry) → c ≡ paste d at (methods_of es env) i → at + i < length d → i < length es → set c (at + i) (method_of env (get_or es i x)) ≡ paste d at (methods_of es env) (i + 1)
entry_more d c at es env i x e h k =
    one_more d c at (methods_of es env) i _ e h (omega (arith, length-map es (method_of env))) (sym (get_or-map (method_of env) es i x no_method k))

-- what a paste of the n methods of s leaves, and where it stands
module _ (d : List Method) (at : ℕ) (s : List Method) (n : ℕ) (h : at ≤ length d) (long : n ≡ length s) where
  take_front : (k : ℕ) → k ≤ at → take k (paste d at s n) ≡ take k d
  take_front k lt =
      let far : k ≤ length (take at d) = omega (arith, length-take-le at d h) in
      ap (take k) (append_assoc (take at d) (take n s) (drop (at + n) d)) ∙ take-append-le k (take at d) (take n s ++ drop (at + n) d) far ∙ take-take k at d lt

  pub cut_before : (p : Span) → p.first + p.size ≤ at → part (paste d at s n) p ≡ part d p
  cut_before p lt =
      sym (drop-take p.first p.size (paste d at s n)) ∙ ap (drop p.first) (take_front (p.first + p.size) lt) ∙ drop-take p.first p.size d

  pub cut_after : (p : Span) → at + n ≤ p.first → part (paste d at s n) p ≡ part d p
  cut_after p lt =
      let split : (at + n) + (p.first - (at + n)) ≡ p.first = omega arith in
      ap (λ i. take p.size (drop i (paste d at s n))) (sym split)
      ∙ ap (take p.size) (sym (drop-drop (p.first - (at + n)) (at + n) (paste d at s n)) ∙ ap (drop (p.first - (at + n))) (drop-paste d at s n h (omega arith)) ∙ drop-drop (p.first - (at + n)) (at + n) d)
      ∙ ap (λ i. take p.size (drop i d)) split

  pub cut_new : part (paste d at s n) (record { first = at; size = n }) ≡ s
  cut_new =
      let whole : take n s ≡ s = take_all n s (omega arith) in
      ap (λ l. take n (drop at l)) (append_assoc (take at d) (take n s) (drop (at + n) d))
      ∙ ap (take n) (drop_at (take at d) (take n s ++ drop (at + n) d) at (length-take-le at d h))
      ∙ ap (λ l. take n (l ++ drop (at + n) d)) whole
      ∙ take_at s (drop (at + n) d) n (sym long)
