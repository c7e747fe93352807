use Rattle.std.proofs.Common.{subst}
use Rattle.semantics.specs.Reduction.{WellFormed}
use Rattle.semantics.proofs.Framing.{framed_reduces, closes_keeps}
use Rattle.semantics.proofs.WellFormed.{reduction_keeps}
use Rattle.semantics.proofs.frames_keep_well_formed.Goals as goal

pub returns : goal.returns
returns c = (λ k F σ F' σ' r w. reduction_keeps (framed_reduces r) w, λ F F' σ r w. subst (λ t. WellFormed t σ) (closes_keeps r) w)
