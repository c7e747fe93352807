-- How a session agrees with the reference.
use Rattle.std.specs.Prelude.{◌≡◌, ℕ, ◌+◌, ◌<◌, ◌≤◌, true, List, length, Some, None, Option}
use Rattle.calculus.specs.Layout.{lengths}
use Rattle.calculus.specs.Standing.{Program}
use Rattle.calculus.specs.Terms.{Term, Static, Closed}
use Rattle.calculus.specs.Text.{Text}
use Rattle.calculus.specs.Trees.{trans, done}
use Rattle.store.specs.Meaning.{Object, Trial, no_trial, closed, opened, overrun, book_room}
use Rattle.trial_layer.specs.Laws.{AllPlaced}
use Rattle.trial_layer.specs.Trials.{undo}
use Rattle.machine_model.specs.declared.answers.RunAnswer.{RunAnswer}
use Rattle.machine_model.specs.declared.answers.RunAnswer.TheVariants as run
use Rattle.machine_model.specs.declared.state.Cell.{Cell}
use Rattle.machine_model.specs.declared.state.Progress.{Progress}
use Rattle.machine_model.specs.declared.state.Progress.TheVariants.{Unused, Running, Ended}
use Rattle.machine_model.specs.declared.state.Report.{Report}
use Rattle.machine_model.specs.Settle.{fits}
use Rattle.machine_model.specs.Start.{givens_of}
use Rattle.semantics.specs.Objects.{Store}
use Rattle.semantics.specs.Reduction.{WellFormedStore}
use Rattle.semantics.specs.Frames.{Framed, waiting}
use Rattle.semantics.specs.Machine.{TreeStore, Label, Run}
use Rattle.semantics.specs.Machine as tree
use Rattle.semantics.specs.Unloading.{reference, unload_store}
use Rattle.reference.specs.Configurations.{sizes, RefTrial, absent, shut, on_trial, config}
use Rattle.reference.specs.Answers.{Kept}
use Rattle.reference.specs.States.{Source, source, term_at, used_by, Reference}
use Rattle.machine_laws.specs.Standing.{StoreStands, StateStands}
use Rattle.machine_laws.specs.Running.{transitions, Since, Standing}
use Rattle.session_laws.specs.Sessions.{Session}

-- objects that stand for the second list of the reference, σ₂, where σ is the first
pub record Second (T : Text) (cells : List Cell) (os : List Object) (σ σ₂ : Store Term) : Type 0 where
  pub store : TreeStore
  pub stands : StoreStands T cells os store
  pub is : unload_store store ≡ σ₂
  pub same_length : length σ₂ ≡ length σ
  pub same_size : sizes σ₂ ≡ sizes σ
  pub well_formed : WellFormedStore (length σ) σ₂

-- The store's trial, over its objects, and that of the reference: an open trial's book has a note for each update since, as long as they are
-- no more than it has room for, and the objects as put back would leave them stand for the second list.
abbrev pub TrialStands : Text → List Cell → List Object → Store Term → Trial → RefTrial → Type 0
TrialStands T cells os σ no_trial absent = Unit {0}
TrialStands T cells os σ no_trial (shut n') = ⊥
TrialStands T cells os σ no_trial (on_trial n' σ₂ u) = ⊥
TrialStands T cells os σ (closed n) absent = ⊥
TrialStands T cells os σ (closed n) (shut n') = n ≡ n'
TrialStands T cells os σ (closed n) (on_trial n' σ₂ u) = ⊥
TrialStands T cells os σ (opened n notes) absent = ⊥
TrialStands T cells os σ (opened n notes) (shut n') = ⊥
TrialStands T cells os σ (opened n notes) (on_trial n' σ₂ u) = (n ≡ n') × (length notes ≡ u) × (u ≤ book_room) × AllPlaced os notes × Second T cells (undo notes os) σ σ₂
TrialStands T cells os σ (overrun n) absent = ⊥
TrialStands T cells os σ (overrun n) (shut n') = ⊥
TrialStands T cells os σ (overrun n) (on_trial n' σ₂ u) = (n ≡ n') × (book_room < u)

-- the programs of the code area are the terms entered
abbrev pub Known : Text → ℕ → Option Source → Type 0
Known T n None = givens_of T n ≡ None
Known T n (Some (source g t)) = Program T n g (trans t done) × Static t × Closed g t

-- a program begun: its state unloads to the reference's term and frames, and its report counts its reductions
pub record Begun (s : Session) (R : Reference) (σ : TreeStore) (F : Framed) : Type 0 where
  pub state : tree.State
  pub standing : Standing s.text s.state s.meaning state σ
  pub since : Since R.allowance R.kinds s.state state
  pub framed_is : F ≡ reference state
  pub frames_kept : length (waiting F) ≤ R.limits.frame_limit
  pub fits_it : fits s.state ≡ true

abbrev pub ProgramAgrees : Progress → Session → Reference → TreeStore → Framed → Type 0
ProgramAgrees Unused s R σ F = Unit {0}
ProgramAgrees Running s R σ F = Begun s R σ F
ProgramAgrees Ended s R σ F = Begun s R σ F

-- The session agrees with the reference: its objects unload to the reference's, the program last started to its term and frames (also when it has
-- ended), and it knows the same programs, trial and limits.
pub record Agrees (s : Session) (R : Reference) : Type 0 where
  pub store : TreeStore
  pub trial : RefTrial
  pub framed : Framed
  pub now_is : R.now ≡ config framed (unload_store store) trial (length s.state.cells)
  pub store_stands : StoreStands s.text s.state.cells s.meaning.objects store
  pub trial_stands : TrialStands s.text s.state.cells s.meaning.objects (unload_store store) s.meaning.trial trial
  pub well_formed : WellFormedStore (length (unload_store store)) (unload_store store)
  pub terms_known : (n : ℕ) → Known s.text n (term_at R.terms n)
  pub used_is : lengths s.text ≡ used_by R.terms
  pub room_is : s.room ≡ R.limits.code
  pub cell_room_is : s.state.cell_room ≡ R.limits.cell_limit
  pub frame_room_is : s.state.frame_room ≡ R.limits.frame_limit
  pub object_limit_is : s.meaning.object_limit ≡ R.limits.object_limit
  pub method_limit_is : s.meaning.method_limit ≡ R.limits.method_limit
  pub kept : Kept R.limits R.allowance R.kinds (unload_store store) (length s.state.cells)
  pub progress_is : s.state.registers.progress ≡ R.progress
  pub program : ProgramAgrees s.state.registers.progress s R store framed

abbrev pub report_in : RunAnswer → Option Report
report_in run.NotRunning = None
report_in (run.Done v r) = Some r
report_in (run.Paused r) = Some r
report_in (run.Refused f p r) = Some r

-- over a run the reported transitions grow by those that the machine on trees makes, from what the session stands for before to what it stands for after
pub record Transits (s : Session) (a : RunAnswer) (s' : Session) : Type 0 where
  pub labels : List Label
  pub before : tree.State
  pub later : tree.State
  pub store : TreeStore
  pub store' : TreeStore
  pub begins : StateStands s.text s.state before
  pub begins_store : StoreStands s.text s.state.cells s.meaning.objects store
  pub run : Run labels before store later store'
  pub ends : StateStands s'.text s'.state later
  pub ends_store : StoreStands s'.text s'.state.cells s'.meaning.objects store'
  pub passes : transitions s'.state ≡ transitions s.state + length labels
  pub reported : report_in a ≡ Some s'.state.registers.report

abbrev pub TransitsIf : Progress → Session → RunAnswer → Session → Type 0
TransitsIf Unused s a s' = Unit {0}
TransitsIf Running s a s' = Transits s a s'
TransitsIf Ended s a s' = Unit {0}
