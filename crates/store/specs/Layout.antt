-- How objects lie in a method area.
use Rattle.std.specs.Prelude.{ℕ, ◌+◌, Bool, ◌&&◌, List, [], ◌∷◌, map, take, drop, ◌==◌}
use Rattle.store.specs.declared.closures.Method.{Method}
use Rattle.store.specs.declared.layout.Span.{Span}

-- the methods in a span
abbrev pub part : List Method → Span → List Method
part ms s = take s.size (drop s.first ms)

-- the spans follow one another without a gap, from `at` to `end`
abbrev pub laid : ℕ → List Span → ℕ → Bool
laid at [] end = at == end
laid at (s ∷ ss) end = s.first == at && laid (at + s.size) ss end

module _ {E : Type 0} where
  -- the objects of the first n entries, each having the methods in its span
  abbrev pub objects_in : (E → Span) → List E → ℕ → List Method → List (List Method)
  objects_in span es n ms = map (λ e. part ms (span e)) (take n es)
