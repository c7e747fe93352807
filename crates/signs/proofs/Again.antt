-- What is written is read again.
use Rattle.std.proofs.Common.{◌≡◌, ℕ, ◌^◌, ◌<◌, ◌≤◌, true, false, eqb, List, [], ◌∷◌, ◌++◌, length, ℤ, pos, negsuc, Some, None, decimal, sym, refl, ap, ◌∙◌, subst, ⊎_elim, arith, w64, SFits}
use Rattle.std.specs.Option.{option_map}
use Rattle.std.specs.Fmt.{signed_decimal}
use Rattle.std.specs.List.{AllByRecursion}
use Rattle.std.proofs.lemmas.Fmt.{decimal_nonempty}
use Rattle.std.proofs.lemmas.Bool.{cases_eq, cond-false}
use Rattle.std.proofs.lemmas.Bool.Decides.{nat_tests}
use Rattle.calculus.specs.declared.values.Value.{Value}
use Rattle.calculus.specs.declared.values.Value.TheVariants.{Figure, Location}
use Rattle.calculus.specs.Places.{if_some}
use Rattle.calculus.specs.Rows.{row}
use Rattle.words.specs.Numbers.{digit, bits_in, integer_in}
use Rattle.words.proofs.Decimal.{digits_decimal, read_again}
use Rattle.signs.specs.Reading.{cut, fields_in, spelled_in, row_in, value_in}
use Rattle.signs.specs.Writing.{spelled, row_text, value_text}
use Rattle.signs.specs.Laws.{RowFits, ValueFits, has_sign, kept, ReadAgain}

bits : (k n : ℕ) → k ≤ 64 → n < 2 ^ k → bits_in k (decimal n) ≡ Some n
bits = read_again.0

integers : (z : ℤ) → SFits w64 z → integer_in (signed_decimal z) ≡ Some z
integers = read_again.1

-- digits have no stroke among them
cut_digits : (ds rest : List ℕ) → AllByRecursion (λ c. digit c ≡ true) ds → cut (ds ++ 47 ∷ rest) ≡ Some (ds, rest)
cut_digits [] rest a = refl
cut_digits (d ∷ ds) rest a =
    let e : eqb d 47 ≡ false = grind (arith, nat_tests, a.0) in
    cond-false _ _ _ e ∙ ap (option_map (λ p. (d ∷ p.0, p.1))) (cut_digits ds rest a.1)

-- digits begin with no sign
no_sign : (ds rest : List ℕ) → AllByRecursion (λ c. digit c ≡ true) ds → 0 < length ds → row_in (ds ++ rest) ≡ spelled_in (ds ++ rest)
no_sign [] rest a h = absurd (omega arith)
no_sign (d ∷ ds) rest a h = let e = a.0 in grind (arith, nat_tests)

no_at : (ds : List ℕ) → AllByRecursion (λ c. digit c ≡ true) ds → value_in ds ≡ option_map Figure (integer_in ds)
no_at [] a = refl
no_at (d ∷ ds) a = let e : eqb d 64 ≡ false = grind (arith, nat_tests, a.0) in cond-false _ _ _ e

module _ (k l : ℕ) (n : ℤ) (f : RowFits (row k l n)) where
  spelled_again : row_in (spelled (row k l n)) ≡ Some (row k l n)
  spelled_again =
      let digs : AllByRecursion (λ c. digit c ≡ true) (decimal k) = digits_decimal k (omega (arith, f.kind)) in
      no_sign (decimal k) _ digs (decimal_nonempty k (omega (arith, f.kind)))
      ∙ ap (λ o. if_some o (λ p. if_some (cut p.1) (λ q. fields_in p.0 q.0 q.1) None) None) (cut_digits (decimal k) (decimal l ++ 47 ∷ signed_decimal n) digs)
      ∙ ap (λ o. if_some o (λ q. fields_in (decimal k) q.0 q.1) None) (cut_digits (decimal l) (signed_decimal n) (digits_decimal l (omega (arith, f.label))))
      ∙ ap (λ o. if_some o (λ kind. if_some (bits_in 16 (decimal l)) (λ label. option_map (λ number. row kind label number) (integer_in (signed_decimal n))) None) None) (bits 8 k (omega arith) f.kind)
      ∙ ap (λ o. if_some o (λ label. option_map (λ number. row k label number) (integer_in (signed_decimal n))) None) (bits 16 l (omega arith) f.label)
      ∙ ap (option_map (λ number. row k l number)) (integers n f.number)

  by_number : (i : ℕ) → row_in (row_text (row i l n)) ≡ option_map (λ m. row i 0 m) (integer_in (signed_decimal n)) → row_in (row_text (row i l n)) ≡ Some (row i 0 n)
  by_number i e = e ∙ ap (option_map (λ m. row i 0 m)) (integers n f.number)

  by_label : (i : ℕ) → row_in (row_text (row i l n)) ≡ option_map (λ m. row i m (pos 0)) (bits_in 16 (decimal l)) → row_in (row_text (row i l n)) ≡ Some (row i l (pos 0))
  by_label i e = e ∙ ap (option_map (λ m. row i m (pos 0))) (bits 16 l (omega arith) f.label)

  again_at : (i : ℕ) → row_in (row_text (row i l n)) ≡ Some (kept (row i l n)) → k ≡ i → row_in (row_text (row k l n)) ≡ Some (kept (row k l n))
  again_at i h e = subst (λ j. row_in (row_text (row j l n)) ≡ Some (kept (row j l n))) (sym e) h

  else_spelled : (k ≡ 1 → ⊥) → (k ≡ 2 → ⊥) → (k ≡ 3 → ⊥) → (k ≡ 4 → ⊥) → (k ≡ 5 → ⊥) → (k ≡ 6 → ⊥) → (k ≡ 7 → ⊥) → (k ≡ 8 → ⊥) → row_in (row_text (row k l n)) ≡ Some (kept (row k l n))
  else_spelled a b c d e g h j =
      let t : row_text (row k l n) ≡ spelled (row k l n) = grind (arith, nat_tests) in
      let s : has_sign (row k l n) ≡ false = grind (arith, nat_tests) in
      ap row_in t ∙ spelled_again ∙ ap Some (sym (cond-false _ _ _ s))

  row_again : row_in (row_text (row k l n)) ≡ Some (kept (row k l n))
  row_again =
      ⊎_elim (again_at 1 (by_number 1 refl)) (λ a.
      ⊎_elim (again_at 2 (by_number 2 refl)) (λ b.
      ⊎_elim (again_at 3 (by_number 3 refl)) (λ c.
      ⊎_elim (again_at 4 (by_label 4 refl)) (λ d.
      ⊎_elim (again_at 5 (by_label 5 refl)) (λ e.
      ⊎_elim (again_at 6 refl) (λ g.
      ⊎_elim (again_at 7 refl) (λ h.
      ⊎_elim (again_at 8 (by_label 8 refl)) (else_spelled a b c d e g h)
      (cases_eq k 8)) (cases_eq k 7)) (cases_eq k 6)) (cases_eq k 5)) (cases_eq k 4)) (cases_eq k 3)) (cases_eq k 2)) (cases_eq k 1)

value_again : (v : Value) → ValueFits v → value_in (value_text v) ≡ Some v
value_again (Figure (pos n)) f = no_at (decimal n) (digits_decimal n (omega (arith, f.sfits))) ∙ ap (option_map Figure) (integers (pos n) f)
value_again (Figure (negsuc n)) f = ap (option_map Figure) (integers (negsuc n) f)
value_again (Location n) f = ap (option_map Location) (bits 32 n (omega arith) f)

pub again : ReadAgain
again = (λ r f. row_again r.kind r.label r.number f, λ r f. spelled_again r.kind r.label r.number f, value_again)
