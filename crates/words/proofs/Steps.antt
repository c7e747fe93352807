-- The first word of a line.
use Rattle.std.proofs.Common.{◌≡◌, ℕ, zero, suc, ◌-◌, ◌<◌, ◌≤◌, Bool, true, false, cond, List, [], ◌∷◌, ◌++◌, length, get_or, take, drop, sym, refl, ap, ◌∙◌, ⊎_elim, append_assoc, append-nil, add-zero, arith}
use Rattle.std.proofs.lemmas.Bool.{cond-true, cond-false, cases_Bool}
use Rattle.std.proofs.lemmas.List.{get_or-drop, length-drop, take_rest}
use Rattle.std.specs.List.{AllByRecursion}
use Rattle.words.specs.Laws.{Parted}
use Rattle.words.specs.Words.{blank, Run, ended, words_after, words_in}

-- `&s[i..]` as the checker has it
abbrev from : ℕ → List ℕ → List ℕ
from i s = take (length s - i) (drop i s)

other : (b : Bool) → (b ≡ false → ⊥) → b ≡ true
other true h = refl
other false h = absurd (h refl)

-- blanks in front of a line are none of its words
skip : (n : ℕ) (bs : List ℕ) → Run true n bs → words_in bs ≡ words_in (drop n bs)
skip zero bs r = refl
skip (suc n) [] r = absurd (omega arith)
skip (suc n) (b ∷ bs) r =
    cond-true _ _ _ (r.all 0 (omega arith))
    ∙ skip n bs (record { within = omega arith; all = λ k l. r.all (suc k) (omega arith); stops = λ l. r.stops (omega arith) })

-- a word ends at a blank, or with the line
gather : (n : ℕ) (w bs : List ℕ) → Run false n bs → words_after w bs ≡ ended (w ++ take n bs) (words_in (drop n bs))
gather zero w [] r = rw append-nil
gather zero w (b ∷ bs) r = let e = other (blank b) (r.stops (omega arith)) in rw (append-nil, e)
gather (suc n) w [] r = absurd (omega arith)
gather (suc n) w (b ∷ bs) r =
    cond-false _ _ _ (r.all 0 (omega arith))
    ∙ gather n (w ++ b ∷ []) bs (record { within = omega arith; all = λ k l. r.all (suc k) (omega arith); stops = λ l. r.stops (omega arith) })
    ∙ ap (λ v. ended v (words_in (drop n bs))) (append_assoc w (b ∷ []) (take n bs))

some : (n : ℕ) (bs : List ℕ) (ws : List (List ℕ)) → 0 < n → n ≤ length bs → ended (take n bs) ws ≡ take n bs ∷ ws
some zero bs ws h l = absurd (omega arith)
some (suc n) [] ws h l = absurd (omega arith)
some (suc n) (b ∷ bs) ws h l = refl

none : (bs : List ℕ) → Run false 0 bs → (0 < length bs → blank (get_or bs 0 0) ≡ true → ⊥) → words_in bs ≡ []
none [] r h = refl
none (b ∷ bs) r h = absurd (⊎_elim (h (omega arith)) (r.stops (omega arith)) (cases_Bool (blank b)))

at_front : (b : ℕ) (bs : List ℕ) → get_or (drop b bs) 0 0 ≡ get_or bs b 0
at_front b bs = get_or-drop b bs 0 0 ∙ ap (λ i. get_or bs i 0) (add-zero b)

-- b blanks, then no word
pub no_word : (bs : List ℕ) (b n : ℕ) → Run true b bs → Run false n (from b bs) → n ≡ 0 → words_in bs ≡ []
no_word bs b n blanks r e =
    let r₀ : Run false 0 (drop b bs) = rw (← e, ← take_rest bs b) r in
    skip b bs blanks
    ∙ none (drop b bs) r₀ (λ l e. blanks.stops (omega (arith, length-drop b bs)) (ap blank (sym (at_front b bs)) ∙ e))

-- b blanks, then a word of n bytes
pub one_word : (bs : List ℕ) (b n : ℕ) {word rest : List ℕ} → Run true b bs → Run false n (from b bs) → 0 < n → word ≡ take n (from b bs) → rest ≡ drop n (from b bs) → words_in bs ≡ word ∷ words_in rest
one_word bs b n blanks r h is_word is_rest =
    skip b bs blanks
    ∙ ap words_in (sym (take_rest bs b))
    ∙ gather n [] (from b bs) r
    ∙ some n (from b bs) _ h r.within
    ∙ cc

ended_before : (w : List ℕ) (us vs : List (List ℕ)) → ended w (us ++ vs) ≡ ended w us ++ vs
ended_before [] us vs = refl
ended_before (b ∷ w) us vs = refl

either : (d : Bool) (w : List ℕ) (us vs us' vs' ws : List (List ℕ)) → us ≡ vs ++ ws → us' ≡ vs' ++ ws → cond d (ended w us) us' ≡ cond d (ended w vs) vs' ++ ws
either true w us vs us' vs' ws h k = ap (ended w) h ∙ ended_before w vs ws
either false w us vs us' vs' ws h k = k

-- what stands behind a blank
parted_after : (w front back : List ℕ) (b : ℕ) → blank b ≡ true → words_after w (front ++ b ∷ back) ≡ words_after w front ++ words_in back
parted_after w [] back b e = cond-true _ _ _ e ∙ ended_before w [] (words_in back)
parted_after w (c ∷ front) back b e = either (blank c) w _ _ _ _ _ (parted_after [] front back b e) (parted_after (w ++ c ∷ []) front back b e)

solid : (v w : List ℕ) → AllByRecursion (λ c. blank c ≡ false) w → words_after v w ≡ ended (v ++ w) []
solid v [] h = ap (λ l. ended l []) (sym (append-nil v))
solid v (c ∷ w) h = cond-false _ _ _ h.0 ∙ solid (v ++ c ∷ []) w h.1 ∙ ap (λ l. ended l []) (append_assoc v (c ∷ []) w)

pub parted : Parted
parted = (refl, λ w b h. solid [] (b ∷ w) h, λ front back b e. parted_after [] front back b e)
