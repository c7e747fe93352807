-- A name with its length, one after another.
use Rattle.std.proofs.Common.{◌≡◌, ℕ, List, [], ◌∷◌, drop, Ok, Result, sym, ap, ◌∙◌, arith}
use Rattle.std.specs.Option.{ok_or}
use Rattle.words.specs.Numbers.{bits_in}
use Rattle.script.specs.declared.calls.Expected.{Expected}
use Rattle.script.specs.declared.calls.Expected.TheVariants as lacks
use Rattle.script.specs.declared.settings.Area.{Area}
use Rattle.script.specs.declared.settings.Lengths.{Lengths}
use Rattle.script.specs.Settings.{with_length}
use Rattle.script.specs.Lines.{then, number_in, new_area_in, lengths_after}

one_pair : (l : Lengths) (w : List ℕ) (ws : List (List ℕ)) (a : Area) (n : ℕ) → Ok a ≡ new_area_in l w → Ok n ≡ number_in lacks.AreaLength ws → lengths_after l (w ∷ ws) ≡ lengths_after (with_length l a n) (drop 1 ws)
one_pair l w [] a n is_area is_number = let z : ◌≡◌ {A = ℕ} 0 1 = cc in absurd (omega arith)
one_pair l w (v ∷ ws) a n is_area is_number =
    ap (λ r. then r (λ b. then (ok_or (bits_in 32 v) lacks.AreaLength) (λ m. lengths_after (with_length l b m) ws))) (sym is_area)
    ∙ ap (λ r. then r (λ m. lengths_after (with_length l a m) ws)) (sym is_number)

-- one pair more is read
pub step : {all : Result Lengths Expected} (l : Lengths) (ws : List (List ℕ)) {w : List ℕ} {ws₁ : List (List ℕ)} {a : Area} {n : ℕ} {l' : Lengths} {ws₂ : List (List ℕ)} → all ≡ lengths_after l ws → ws ≡ w ∷ ws₁ → Ok a ≡ new_area_in l w → Ok n ≡ number_in lacks.AreaLength ws₁ → l' ≡ with_length l a n → ws₂ ≡ drop 1 ws₁ → all ≡ lengths_after l' ws₂
step l ws {w} {ws₁} {a} {n} {l'} {ws₂} so_far next is_area is_number with_it rest =
    so_far
    ∙ ap (lengths_after l) next
    ∙ one_pair l w ws₁ a n is_area is_number
    ∙ sym (ap (λ k. lengths_after k ws₂) with_it ∙ ap (lengths_after (with_length l a n)) rest)
