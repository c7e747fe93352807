use Rattle.std.proofs.Common.{◌≡◌, ℕ, drop}
use Rattle.store.specs.Layout.{part}
use Rattle.store.specs.Meaning.{Object, place_from}
use Rattle.store.proofs.layout.place_of.Given as goal

abbrev Left : Object → ℕ → ℕ → Type 0
Left o x i = place_from i (drop i o) x ≡ place_from 0 o x

abbrev pub invariant-loop-place : goal.invariant-loop-place
invariant-loop-place l = Left (part l.methods (record { first = l.first; size = l.«place-end» })) l.label l.place
