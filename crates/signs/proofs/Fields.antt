-- A word taken apart: its sign, and what its strokes part.
use Rattle.std.proofs.Common.{◌≡◌, ℕ, zero, suc, ◌+◌, ◌-◌, ◌<◌, ◌≤◌, true, false, cond, ltb, List, [], ◌∷◌, length, get_or, take, drop, Some, None, sym, refl, ap, ◌∙◌, arith}
use Rattle.std.specs.List.{position, position_or_len}
use Rattle.std.specs.Option.{option_map}
use Rattle.std.proofs.lemmas.Bool.{cond-true, cond-false}
use Rattle.std.proofs.lemmas.List.{take_rest}
use Rattle.std.proofs.lemmas.Bool.Decides.{nat_tests}
use Rattle.std.proofs.lemmas.List.Sums.{fails_before_first}
use Rattle.std.proofs.lemmas.List.Quantifiers.{position-Some}
use Rattle.signs.specs.Reading.{is_stroke, cut}

-- a word that begins with the sign s
pub headed : (bs : List ℕ) (s : ℕ) → get_or bs 0 0 ≡ s → 0 < s → bs ≡ s ∷ take (length bs - 1) (drop 1 bs)
headed [] s e h = absurd (omega arith)
headed (b ∷ bs) s e h = ap (λ x. x ∷ bs) e ∙ ap (λ l. s ∷ l) (sym (take_rest (b ∷ bs) 1))

cut_at : (n : ℕ) (bs : List ℕ) → n < length bs → ((k : ℕ) → k < n → is_stroke (get_or bs k 0) ≡ false) → is_stroke (get_or bs n 0) ≡ true → cut bs ≡ Some (take n bs, drop (n + 1) bs)
cut_at n [] h none e = absurd (omega arith)
cut_at zero (b ∷ bs) h none e = cond-true _ _ _ e
cut_at (suc n) (b ∷ bs) h none e =
    cond-false _ _ _ (none 0 (omega arith))
    ∙ ap (option_map (λ p. (b ∷ p.0, p.1))) (cut_at n bs (omega arith) (λ k l. none (suc k) (omega arith)) e)
    ∙ (let e : suc (n + 1) ≡ suc n + 1 = omega arith in ap (λ i. Some (b ∷ take n bs, drop i (b ∷ bs))) e)

not_cut : (bs : List ℕ) → ((k : ℕ) → k < length bs → is_stroke (get_or bs k 0) ≡ false) → cut bs ≡ None
not_cut [] none = refl
not_cut (b ∷ bs) none =
    cond-false _ _ _ (none 0 (omega arith))
    ∙ ap (option_map (λ p. (b ∷ p.0, p.1))) (not_cut bs (λ k l. none (suc k) (omega arith)))

past : (n m : ℕ) → None ≡ cond (ltb n m) (Some n) None → m ≤ n
past n m e = grind (arith, nat_tests)

module _ (bs : List ℕ) where
  pub at_stroke : (i : ℕ) → Some i ≡ position is_stroke bs → cut bs ≡ Some (take i bs, take (length bs - (i + 1)) (drop (i + 1) bs))
  at_stroke i e = let p = position-Some is_stroke bs i 0 (sym e) in cut_at i bs p.0 p.2 p.1 ∙ rw take_rest

  pub no_stroke : None ≡ position is_stroke bs → cut bs ≡ None
  no_stroke e = let p : length bs ≤ position_or_len is_stroke bs = past _ _ e in not_cut bs (λ k h. fails_before_first is_stroke bs k 0 (omega arith))
