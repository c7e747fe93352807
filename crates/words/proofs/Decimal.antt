-- A number read digit by digit.
use Rattle.std.proofs.Common.{◌≡◌, ℕ, zero, suc, ◌+◌, ◌-◌, ◌*◌, ◌/◌, ◌%◌, ◌^◌, ◌<◌, ◌≤◌, Bool, true, false, cond, eqb, List, [], ◌∷◌, ◌++◌, length, get_or, take, drop, ℤ, pos, negsuc, neg_ℤ, ◌-ℤ◌, SomeIff, Some, None, decimal, Option, sym, refl, ap, ◌∙◌, ⊎_elim, subst, mod-lt, arith, pow_mono, w64, SFits}
use native.Mathlib.Nat.{mod-add-div'}
use Rattle.std.proofs.Math.IntN.{+ℤ_idl}
use Rattle.std.proofs.lemmas.Bool.{le-ltb, lt-ltb, eq-eqb, cond-true, cond-false, cases_lt}
use Rattle.std.proofs.lemmas.List.{at_drop_more, at_drop_all, take_rest}
use Rattle.std.proofs.lemmas.Bool.Decides.{nat_tests}
use Rattle.std.specs.Option.{option_map}
use Rattle.std.specs.List.{AllByRecursion}
use Rattle.std.proofs.ByRecursion.{All-append}
use Rattle.std.specs.Fmt.{signed_decimal}
use Rattle.std.proofs.lemmas.Fmt.{decimal_by_steps, decimal_nonempty}
use Rattle.words.specs.Laws.{ReadAgain}
use Rattle.words.specs.Numbers.{digit, read_on, natural_in, under, bits_in, integer_in}

either : (m : ℕ) (d : Bool) (o : Option ℕ) → under m o ≡ None → under m (cond d o None) ≡ None
either m true o e = e
either m false o e = refl

-- a number so far only grows
pub too_large : (m n : ℕ) (bs : List ℕ) → m ≤ n → under m (read_on n bs) ≡ None
too_large m n [] h = cond-false _ _ _ (le-ltb n m h)
too_large m n (b ∷ bs) h = either m (digit b) _ (too_large m (n * 10 + (b - 48)) bs (omega arith))

module _ (bs : List ℕ) (n i : ℕ) (h : i < length bs) where
  pub next_digit : digit (get_or bs i 0) ≡ true → read_on n (drop i bs) ≡ read_on (n * 10 + (get_or bs i 0 - 48)) (drop (i + 1) bs)
  next_digit d = at_drop_more (read_on n) bs i 0 h ∙ cond-true _ _ _ d

  pub no_digit : digit (get_or bs i 0) ≡ false → read_on n (drop i bs) ≡ None
  no_digit d = at_drop_more (read_on n) bs i 0 h ∙ cond-false _ _ _ d

pub last_digit : (bs : List ℕ) (n i : ℕ) → length bs ≤ i → read_on n (drop i bs) ≡ Some n
last_digit bs n i h = at_drop_all (read_on n) bs i h

pub some_digits : (bs : List ℕ) → (length bs ≡ 0 → ⊥) → natural_in bs ≡ read_on 0 bs
some_digits [] h = absurd (h refl)
some_digits (b ∷ bs) h = refl

-- what a larger limit says of a smaller one
under_some : (m k : ℕ) (o : Option ℕ) (n : ℕ) → Some n ≡ under k o → under m o ≡ under m (Some n)
under_some m k None n e = let z : ◌≡◌ {A = ℕ} 0 1 = cc in absurd (omega arith)
under_some m k (Some x) n e = let h : x ≡ n = grind (arith, nat_tests) in ap (λ y. under m (Some y)) h

under_none : (m k : ℕ) (o : Option ℕ) → m ≤ k → None ≡ under k o → under m o ≡ None
under_none m k None h e = refl
under_none m k (Some x) h e = grind (arith, nat_tests)

abbrev below_zero : Option ℕ → Option ℤ
below_zero o = option_map (λ n. neg_ℤ (pos n)) (under (2 ^ 63 + 1) o)

-- after a minus
module _ (bs : List ℕ) (m : get_or bs 0 0 ≡ 45) where
  minus : integer_in bs ≡ below_zero (natural_in (take (length bs - 1) (drop 1 bs)))
  minus = by bs m
    where
      by : (bs : List ℕ) → get_or bs 0 0 ≡ 45 → integer_in bs ≡ below_zero (natural_in (take (length bs - 1) (drop 1 bs)))
      by [] e = absurd (omega arith)
      by (b ∷ bs) e = cond-true _ _ _ (eq-eqb _ _ e) ∙ ap (λ ds. below_zero (natural_in ds)) (sym (take_rest (b ∷ bs) 1))

  pub minus_some : (n : ℕ) → Some n ≡ bits_in 64 (take (length bs - 1) (drop 1 bs)) → integer_in bs ≡ below_zero (Some n)
  minus_some n e = minus ∙ ap (option_map (λ (k : ℕ). neg_ℤ (pos k))) (under_some (2 ^ 63 + 1) (2 ^ 64) (natural_in (take (length bs - 1) (drop 1 bs))) n e)

  pub minus_none : None ≡ bits_in 64 (take (length bs - 1) (drop 1 bs)) → integer_in bs ≡ None
  minus_none e = minus ∙ ap (option_map (λ (k : ℕ). neg_ℤ (pos k))) (under_none (2 ^ 63 + 1) (2 ^ 64) (natural_in (take (length bs - 1) (drop 1 bs))) (omega arith) e)

-- a number taken off 0
pub subtracted : (n : ℕ) (r : Option ℤ) → SomeIff r (SFits w64 (pos 0 -ℤ pos n)) (pos 0 -ℤ pos n) → r ≡ below_zero (Some n)
subtracted n r h = by n r (subst (λ z. SomeIff r (SFits w64 z) z) (+ℤ_idl (neg_ℤ (pos n))) h)
  where
    by : (n : ℕ) (r : Option ℤ) → SomeIff r (SFits w64 (neg_ℤ (pos n))) (neg_ℤ (pos n)) → r ≡ below_zero (Some n)
    by zero None h = absurd (h (record { sfits = omega arith }))
    by zero (Some z) h = ap Some h.1
    by (suc n) None h = sym (ap (option_map (λ (k : ℕ). neg_ℤ (pos k))) (cond-false _ _ _ (le-ltb (suc n) (2 ^ 63 + 1) (⊎_elim (λ l. absurd (h (record { sfits = l }))) (λ l. omega arith) (cases_lt n (2 ^ 63))))))
    by (suc n) (Some z) h = let l : n < 2 ^ 63 = h.0.sfits in ap Some h.1 ∙ sym (ap (option_map (λ (k : ℕ). neg_ℤ (pos k))) (cond-true _ _ _ (lt-ltb (suc n) (2 ^ 63 + 1) (omega arith))))

goes_on : (x : Bool) (o p : Option ℕ) (k v : ℕ) → (o ≡ Some k → p ≡ Some v) → cond x o None ≡ Some k → cond x p None ≡ Some v
goes_on true o p k v h e = h e
goes_on false o p k v h e = let z : ◌≡◌ {A = ℕ} 0 1 = cc in absurd (omega arith)

-- one more digit at the end
read_push : (m k : ℕ) (ds : List ℕ) (d : ℕ) → digit d ≡ true → read_on m ds ≡ Some k → read_on m (ds ++ d ∷ []) ≡ Some (k * 10 + (d - 48))
read_push m k [] d h e = let same : m ≡ k = cc in cond-true _ _ _ h ∙ ap (λ n. Some (n * 10 + (d - 48))) same
read_push m k (b ∷ ds) d h e = goes_on (digit b) _ _ k _ (read_push (m * 10 + (b - 48)) k ds d h) e

read_decimal : (n : ℕ) → n < 2 ^ 64 → read_on 0 (decimal n) ≡ Some n
read_decimal =
    decimal_by_steps (λ n ds. read_on 0 ds ≡ Some n)
    (λ n h. let d : digit (48 + n) ≡ true = grind (arith, nat_tests) in let v : 0 * 10 + (48 + n - 48) ≡ n = omega arith in cond-true _ _ _ d ∙ ap Some v)
    (λ n ds h e. let r : n % 10 < 10 = mod-lt n (omega arith) in let d : digit (48 + n % 10) ≡ true = grind (arith, nat_tests) in let v : n / 10 * 10 + (48 + n % 10 - 48) ≡ n = omega (arith, mod-add-div' n 10) in read_push 0 (n / 10) ds _ d e ∙ ap Some v)

natural_decimal : (n : ℕ) → n < 2 ^ 64 → natural_in (decimal n) ≡ Some n
natural_decimal n h = some_digits (decimal n) (λ e. omega (arith, decimal_nonempty n h)) ∙ read_decimal n h

-- digits do not begin with a minus
plain_digits : (bs : List ℕ) (n : ℕ) → natural_in bs ≡ Some n → integer_in bs ≡ option_map pos (under (2 ^ 63) (Some n))
plain_digits [] n e = let z : ◌≡◌ {A = ℕ} 0 1 = cc in absurd (omega arith)
plain_digits (b ∷ bs) n e = cond-false _ _ _ (no_minus (digit b) refl e) ∙ ap (λ o. option_map pos (under (2 ^ 63) o)) e
  where
    no_minus : (x : Bool) → digit b ≡ x → cond x (read_on (0 * 10 + (b - 48)) bs) None ≡ Some n → eqb b 45 ≡ false
    no_minus true d h = grind (arith, nat_tests)
    no_minus false d h = let z : ◌≡◌ {A = ℕ} 0 1 = cc in absurd (omega arith)

pub read_again : ReadAgain
read_again = (bits, signs)
  where
    bits : (k n : ℕ) → k ≤ 64 → n < 2 ^ k → bits_in k (decimal n) ≡ Some n
    bits k n h l = let m : n < 2 ^ 64 = omega (arith, pow_mono {i = k} {j = 64} h) in ap (under (2 ^ k)) (natural_decimal n m) ∙ cond-true _ _ _ (lt-ltb _ _ l)

    signs : (z : ℤ) → SFits w64 z → integer_in (signed_decimal z) ≡ Some z
    signs (pos n) f = let m : n < 2 ^ 63 = f.sfits in plain_digits (decimal n) n (natural_decimal n (omega arith)) ∙ ap (option_map pos) (cond-true _ _ _ (lt-ltb _ _ m))
    signs (negsuc n) f = let m : n < 2 ^ 63 = f.sfits in ap below_zero (natural_decimal (suc n) (omega arith)) ∙ ap (option_map (λ (k : ℕ). neg_ℤ (pos k))) (cond-true _ _ _ (lt-ltb (suc n) (2 ^ 63 + 1) (omega arith)))

-- what is written of a number is digits
pub digits_decimal : (n : ℕ) → n < 2 ^ 64 → AllByRecursion (λ c. digit c ≡ true) (decimal n)
digits_decimal =
    decimal_by_steps (λ n ds. AllByRecursion (λ c. digit c ≡ true) ds)
    (λ n h. (grind (arith, nat_tests), tt))
    (λ n ds h a. let r : n % 10 < 10 = mod-lt n (omega arith) in All-append (λ c. digit c ≡ true) ds _ a (grind (arith, nat_tests), tt))
