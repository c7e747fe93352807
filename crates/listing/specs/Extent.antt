-- Which lists are those of a program.
use Rattle.std.specs.Prelude.{slice_get, ◌≡◌, ℕ, ◌+◌, cond, List, length, drop, Some, None, Option, ◌==◌}
use Rattle.std.specs.List.{prefix_len}
use Rattle.calculus.specs.declared.code.ListEntry.{ListEntry}
use Rattle.calculus.specs.Places.{if_some}
use Rattle.calculus.specs.Terms.{Term}
use Rattle.calculus.specs.Sizes.{term_sizes}
use Rattle.calculus.specs.Text.{Text, joined}
use Rattle.calculus.specs.Layout.{compiled}

-- how many bodies come before the next main list
abbrev pub run : List ListEntry → ℕ
run es = prefix_len (λ e. e.mark == 0) es

-- the number after the last list of a program
abbrev pub end_of : Text → ℕ → Option ℕ
end_of T n = if_some (slice_get T.contents n) (λ e. cond (e.mark == 0) None (Some (n + 1 + run (drop (n + 1) T.contents)))) None

-- a compiled program has as many lists as its term's sizes say, where no body comes after them
abbrev pub Extent : Type 0
Extent = (T U : Text) (g : ℕ) (t : Term) → run U.contents ≡ 0 → end_of (joined (compiled T g t) U) (length T.contents) ≡ Some (length T.contents + (term_sizes t).contents)
