-- How a flat store's objects lie.
use Rattle.std.specs.Prelude.{ℕ, Bool, List, map, take}
use Rattle.store.specs.declared.layout.Span.{Span}
use Rattle.store.specs.Layout.{laid}

-- the spans of the n objects follow one another from the front to `end`
abbrev pub laid_out : List Span → ℕ → ℕ → Bool
laid_out es n end = laid 0 (map (λ e. e) (take n es)) end
