use Rattle.std.proofs.Common.{refl}
use Rattle.semantics.specs.Reduction.{hole, select_figure, select_missing}
use Rattle.semantics.proofs.marked_examples_hold.Goals as goal

pub returns : goal.returns
returns c = (
  refl,
  refl,
  refl,
  refl,
  refl,
  refl,
  refl,
  refl,
  refl,
  refl,
  refl,
  record { context = hole; redex = _; is = refl; has = select_figure },
  refl,
  record { context = hole; redex = _; is = refl; has = select_missing refl refl },
  λ v. refl,
  refl,
)
