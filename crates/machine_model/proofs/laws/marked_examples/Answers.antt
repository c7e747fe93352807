use Rattle.std.proofs.Common.{refl}
use Rattle.machine_model.specs.State.{walked}
use Rattle.machine_model.specs.Settle.{settled_for}
use Rattle.machine_model.specs.Run.{run_for}
use Rattle.machine_model.proofs.laws.marked_examples.Goals as goal

pub returns : goal.returns
unfolding walked settled_for run_for
returns c =
    record {
      let_done = refl;
      update_done = refl;
      update_stored = refl;
      update_cells = refl;
      clone_done = refl;
      cells_full = refl;
      stack_full = refl;
      figure_taken = refl;
      label_missing = refl;
      given_started = refl;
      given_done = refl;
      paused = refl;
      spent = refl;
    }
