-- Environments, one cell on.
use Rattle.std.proofs.Common.{◌≡◌, ℕ, zero, suc, ◌-◌, ◌<◌, List, Some, None, sym, ap, ◌∙◌, sub-one, arith, ne_eqb}
use Rattle.std.proofs.lemmas.Bool.{cond-false}
use Rattle.machine_model.specs.declared.state.Cell.{Cell}
use Rattle.calculus.specs.Places.{if_some}
use Rattle.machine_model.specs.State.{cell_of, walked, variable}

pub walked_none : (k : ℕ) (cells : List Cell) (e : ℕ) → None ≡ cell_of cells e → None ≡ walked k cells e
unfolding walked
walked_none zero cells e h = ap (λ o. if_some o (λ c. Some c.value) None) h
walked_none (suc k) cells e h = ap (λ o. if_some o (λ c. walked k cells c.parent) None) h

pub walked_here : (cells : List Cell) (e : ℕ) (c : Cell) → Some c ≡ cell_of cells e → Some c.value ≡ walked 0 cells e
unfolding walked
walked_here cells e c h = ap (λ o. if_some o (λ d. Some d.value) None) h

pub walked_on : (k : ℕ) (cells : List Cell) (e : ℕ) (c : Cell) → Some c ≡ cell_of cells e → 0 < k → walked (k - 1) cells c.parent ≡ walked k cells e
unfolding walked
walked_on zero cells e c h l = absurd (omega arith)
walked_on (suc k) cells e c h l = ap (λ n. walked n cells c.parent) (sub-one (suc k)) ∙ ap (λ o. if_some o (λ d. walked k cells d.parent) None) h

pub variable_is : (cells : List Cell) (e i : ℕ) → 0 < i → walked (i - 1) cells e ≡ variable cells e i
variable_is cells e i h = sym (cond-false _ _ _ (ne_eqb i 0 (λ z. omega arith)))
