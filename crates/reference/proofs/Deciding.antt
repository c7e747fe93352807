-- Run's answer is decided by the configuration, and a run of the reference has one outcome.
use Rattle.std.proofs.Common.{◌≡◌, ℕ, zero, suc, ◌+◌, ◌<◌, ◌≤◌, Bool, true, false, cond, eqb, List, [], ◌∷◌, ◌++◌, length, Some, None, Option, sym, refl, ap, ◌∙◌, subst, ap₂, subst₂, arith, length-append, le-ltb, lt-ltb, eq-eqb, ne_eqb, le-leb}
use mathlib.Core.Path.{subst₃}
use borrow.Author.Tests.{lt-leb}
use Rattle.calculus.specs.Terms.{Term, val}
use Rattle.calculus.specs.declared.values.Value.{Value}
use Rattle.calculus.specs.declared.values.Value.TheVariants.{Figure, Location}
use Rattle.store.specs.declared.faults.StoreFault.TheVariants.{ObjectsFull, MethodsFull}
use Rattle.machine_model.specs.Answers.{fault_number}
use Rattle.machine_model.specs.declared.answers.Fault.{Fault}
use Rattle.machine_model.specs.declared.answers.Fault.TheVariants as fault
use Rattle.machine_model.specs.declared.answers.RunAnswer.{RunAnswer}
use Rattle.machine_model.specs.declared.answers.RunAnswer.TheVariants as run
use Rattle.machine_model.specs.declared.state.Progress.{Progress}
use Rattle.machine_model.specs.declared.state.Progress.TheVariants.{Running, Ended}
use Rattle.semantics.specs.Objects.{Store, Object, labelled, replace, with_method}
use Rattle.semantics.specs.Sequences.{ends, also}
use Rattle.semantics.specs.Reduction.{Kind, making, selecting, updating, cloning, letting, Context, plug, methods, Rule, red_object, red_select, red_update, red_clone, red_let, Stuck, Reductions, TakesFigure, select_figure, update_figure, clone_figure, LacksLabel, select_missing, update_missing}
use Rattle.semantics.specs.Redexes.{Redex, select_redex, update_redex, clone_redex, term_of, at, decompose, idle, to, contract}
use Rattle.semantics.specs.Frames.{Framed, framed, plug_all, waiting, opens, FramedReduces, stays, enters, closes, whole}
use Rattle.semantics.proofs.Objects.{method_in, length_with}
use Rattle.semantics.proofs.Decomposing.{plug_decomposes, rule_contracts}
use Rattle.semantics.proofs.Framing.{idle_under, framed_reduces, closes_keeps}
use Rattle.reference.specs.Configurations.{Limits, sizes, RefTrial, trial_after, cells_after, Config, config, objects_of, cells_of, whole_of, Moves, stops, closing, reducing, NextStep}
use Rattle.reference.specs.Answers.{Adds, Opens, Ends, ends_done, ends_20, ends_21, ends_paused, ends_22, ends_23, ends_24, ends_25, ends_26, Kept}
use Rattle.reference.specs.States.{Reference, RefRan, progress_after}
use Rattle.reference.specs.Laws.{Verdict, finishes, pauses, faults, idles, verdict, fault_of, enter_room, add_room, room, decide_contraction, decide_at, decide, Reducible, Shows, MovesReduce, Decided, NeverAstray, EndsShow, Unique}

clash : {A : Type 0} → ◌≡◌ {A = ℕ} 0 1 → A
clash z = absurd (omega arith)

moves_one : {N : ℕ} {ks : List Kind} {c c' : Config} → Moves N ks c c' → Reductions ks (whole_of c) (objects_of c) (whole_of c') (objects_of c')
moves_one stops = ends
moves_one (closing {σ = σ} {ks = ks} {c = c} h g) = subst (λ x. Reductions ks x σ (whole_of c) (objects_of c)) (sym (closes_keeps h)) (moves_one g)
moves_one (reducing h l g) = also (framed_reduces h) (moves_one g)

pub moves_reduce : MovesReduce
moves_reduce N ks c c' h = moves_one h

-- where a step with frames goes
abbrev now : Framed → Term
now (framed t Rs) = t

abbrev onward : Bool → Context → Term → List Context → Framed
onward true R a Rs = framed a (R ∷ Rs)
onward false R a Rs = framed (plug R a) Rs

record Steps (k : Kind) (F : Framed) (σ : Store Term) (F' : Framed) (σ' : Store Term) : Type 0 where
  context : Context
  redex : Redex
  result : Term
  splits : decompose (now F) ≡ at context redex
  does : contract redex σ ≡ to k result σ'
  after_is : F' ≡ onward (opens k) context result (waiting F)

steps : {k : Kind} {F : Framed} {σ : Store Term} {F' : Framed} {σ' : Store Term} → FramedReduces k F σ F' σ' → Steps k F σ F' σ'
steps (stays {k} {a} {a'} {Rs} R h rule) =
    let c = rule_contracts rule in
    record { context = R; redex = c.redex; result = a'; splits = ap (λ x. decompose (plug R x)) c.is ∙ plug_decomposes R c.redex; does = c.does; after_is = ap (λ b. onward b R a' Rs) (sym h) }
steps (enters {k} {a} {a'} {Rs} R h rule) =
    let c = rule_contracts rule in
    record { context = R; redex = c.redex; result = a'; splits = ap (λ x. decompose (plug R x)) c.is ∙ plug_decomposes R c.redex; does = c.does; after_is = ap (λ b. onward b R a' Rs) (sym h) }

-- what is decided where there is a step
decide_step : (Λ : Limits) (A n j i : ℕ) (θ : RefTrial) (c : ℕ) (k : Kind) (F : Framed) (σ : Store Term) (F' : Framed) (σ' : Store Term) → Steps k F σ F' σ' →
    decide Λ A n j i (config F σ θ c) ≡ cond (eqb j n) (Some pauses) (cond (eqb i A) (Some (faults fault.AllowanceSpent)) (room k Λ (waiting F) σ' c))
decide_step Λ A n j i θ c k (framed t Rs) σ F' σ' h =
    ap (λ x. decide_at x Λ A n j i Rs σ c) h.splits ∙ ap (λ x. decide_contraction x h.redex Λ A n j i Rs c) h.does

-- faults
record Idles (a : Term) (σ : Store Term) (f : Fault) : Type 0 where
  redex : Redex
  is : a ≡ term_of redex
  does : contract redex σ ≡ idle
  fault_is : fault_of redex ≡ f

figure_idles : {a : Term} → TakesFigure a → (σ : Store Term) → Idles a σ fault.FigureTaken
figure_idles (select_figure {k} {l}) σ = record { redex = select_redex (Figure k) l; is = refl; does = refl; fault_is = refl }
figure_idles (update_figure {k} {l} {b}) σ = record { redex = update_redex (Figure k) l b; is = refl; does = refl; fault_is = refl }
figure_idles (clone_figure {k}) σ = record { redex = clone_redex (Figure k); is = refl; does = refl; fault_is = refl }

label_idles : {σ : Store Term} {a : Term} → LacksLabel σ a → Idles a σ fault.LabelMissing
label_idles {σ} (select_missing {n} {l} {o} p q) = record { redex = select_redex (Location n) l; is = refl; does = rw (method_in σ n l o p ∙ q); fault_is = refl }
label_idles {σ} (update_missing {n} {l} {o} {b} p q) = record { redex = update_redex (Location n) l b; is = refl; does = rw (method_in σ n l o p ∙ q); fault_is = refl }

decide_idle : (Λ : Limits) (A n j i : ℕ) (θ : RefTrial) (c : ℕ) (t : Term) (Rs : List Context) (σ : Store Term) (f : Fault) (R : Context) (a : Term) → t ≡ plug R a → Idles a σ f →
    decide Λ A n j i (config (framed t Rs) σ θ c) ≡ Some (faults f)
decide_idle Λ A n j i θ c t Rs σ f R a e h =
    let z : decompose t ≡ at R h.redex = ap decompose e ∙ ap (λ x. decompose (plug R x)) h.is ∙ plug_decomposes R h.redex in
    ap (λ x. decide_at x Λ A n j i Rs σ c) z ∙ ap (λ x. decide_contraction x h.redex Λ A n j i Rs c) h.does ∙ ap (λ x. Some (faults x)) h.fault_is

room_opens : (k : Kind) (Λ : Limits) (Rs : List Context) (σ' : Store Term) (c : ℕ) → Opens k → room k Λ Rs σ' c ≡ enter_room Λ Rs c
room_opens making Λ Rs σ' c h = absurd h
room_opens selecting Λ Rs σ' c h = refl
room_opens updating Λ Rs σ' c h = absurd h
room_opens cloning Λ Rs σ' c h = absurd h
room_opens letting Λ Rs σ' c h = refl

room_adds : (k : Kind) (Λ : Limits) (Rs : List Context) (σ' : Store Term) (c : ℕ) → Adds k → room k Λ Rs σ' c ≡ add_room Λ σ'
room_adds making Λ Rs σ' c h = refl
room_adds selecting Λ Rs σ' c h = absurd h
room_adds updating Λ Rs σ' c h = absurd h
room_adds cloning Λ Rs σ' c h = refl
room_adds letting Λ Rs σ' c h = absurd h

apart_lt : (j n : ℕ) → j < n → eqb j n ≡ false
apart_lt j n h = ne_eqb j n (λ e. omega arith)

decided_by : {Λ : Limits} {A n j : ℕ} {ks : List Kind} {c : Config} {a : RunAnswer} → Ends Λ A n j ks c a → decide Λ A n j (length ks) c ≡ Some (verdict a)
decided_by (ends_done p q) = refl
decided_by {Λ} {A} {n} {j} {ks} (ends_20 {t} {Rs} {σ} {θ} {c} p h) = decide_idle Λ A n j (length ks) θ c t Rs σ fault.FigureTaken h.context h.redex h.is (figure_idles h.has σ)
decided_by {Λ} {A} {n} {j} {ks} (ends_21 {t} {Rs} {σ} {θ} {c} p h) = decide_idle Λ A n j (length ks) θ c t Rs σ fault.LabelMissing h.context h.redex h.is (label_idles h.has)
decided_by {Λ} {A} {n} {j} {ks} (ends_paused {F} {σ} {θ} {c} p k σ' x e) =
    let b₁ = eq-eqb j n e in decide_step Λ A n j (length ks) θ c k F σ x.after σ' (steps x.step) ∙ cc
decided_by {Λ} {A} {n} {j} {ks} (ends_22 {F} {σ} {θ} {c} p k σ' x l e) =
    let b₁ = apart_lt j n l in let b₂ = eq-eqb (length ks) A e in
    decide_step Λ A n j (length ks) θ c k F σ x.after σ' (steps x.step) ∙ cc
decided_by {Λ} {A} {n} {j} {ks} (ends_23 {F} {σ} {θ} {c} p k σ' x o f) =
    let b₁ = apart_lt j n x.called in let b₂ = apart_lt (length ks) A x.allowed in let b₃ = room_opens k Λ (waiting F) σ' c o in let b₄ = le-leb Λ.cell_limit c f in
    decide_step Λ A n j (length ks) θ c k F σ x.next.after σ' (steps x.next.step) ∙ cc
decided_by {Λ} {A} {n} {j} {ks} (ends_24 {F} {σ} {θ} {c} p k σ' x o f g) =
    let b₁ = apart_lt j n x.called in let b₂ = apart_lt (length ks) A x.allowed in let b₃ = room_opens k Λ (waiting F) σ' c o in let b₄ = lt-leb Λ.cell_limit c f in let b₅ = le-leb Λ.frame_limit (length (waiting F)) g in
    decide_step Λ A n j (length ks) θ c k F σ x.next.after σ' (steps x.next.step) ∙ cc
decided_by {Λ} {A} {n} {j} {ks} (ends_25 {F} {σ} {θ} {c} p k σ' x o f) =
    let b₁ = apart_lt j n x.called in let b₂ = apart_lt (length ks) A x.allowed in let b₃ = room_adds k Λ (waiting F) σ' c o in let b₄ = lt-ltb Λ.object_limit (length σ') f in
    decide_step Λ A n j (length ks) θ c k F σ x.next.after σ' (steps x.next.step) ∙ cc
decided_by {Λ} {A} {n} {j} {ks} (ends_26 {F} {σ} {θ} {c} p k σ' x o f g) =
    let b₁ = apart_lt j n x.called in let b₂ = apart_lt (length ks) A x.allowed in let b₃ = room_adds k Λ (waiting F) σ' c o in let b₄ = le-ltb Λ.object_limit (length σ') f in let b₅ = lt-ltb Λ.method_limit (sizes σ') g in
    decide_step Λ A n j (length ks) θ c k F σ x.next.after σ' (steps x.next.step) ∙ cc

pub decided : Decided
decided Λ A n j ks c a h = decided_by h

-- what only grows
pub sizes_append : (σ τ : Store Term) → sizes (σ ++ τ) ≡ sizes σ + sizes τ
sizes_append [] τ = omega arith
sizes_append (o ∷ σ) τ = omega (arith, sizes_append σ τ)

replace_length : (o : Object Term) (l : ℕ) (b : Term) → length (replace o l b) ≡ length o
replace_length [] l b = refl
replace_length (labelled l' x ∷ o) l b = by (eqb l' l) (replace_length o l b)
  where
    by : (t : Bool) → length (replace o l b) ≡ length o → length (cond t (labelled l' b ∷ o) (labelled l' x ∷ replace o l b)) ≡ suc (length o)
    by true h = refl
    by false h = ap suc h

with_sizes : (σ : Store Term) (n l : ℕ) (b : Term) → sizes (with_method σ n l b) ≡ sizes σ
with_sizes [] n l b = refl
with_sizes (o ∷ σ) zero l b = ap (λ k. k + sizes σ) (replace_length o l b)
with_sizes (o ∷ σ) (suc n) l b = ap (λ k. length o + k) (with_sizes σ n l b)

rule_grows : {k : Kind} {a : Term} {σ : Store Term} {a' : Term} {σ' : Store Term} → Rule k a σ a' σ' → (length σ ≤ length σ') × (sizes σ ≤ sizes σ')
rule_grows (red_object {σ} {ms}) = (omega (arith, length-append σ (methods ms ∷ [])), omega (arith, sizes_append σ (methods ms ∷ [])))
rule_grows (red_select e) = (omega arith, omega arith)
rule_grows (red_update {σ} {n} {l} {b} e) = (omega (arith, length_with σ n l b), omega (arith, with_sizes σ n l b))
rule_grows (red_clone {σ} {n} {o} e) = (omega (arith, length-append σ (o ∷ [])), omega (arith, sizes_append σ (o ∷ [])))
rule_grows red_let = (omega arith, omega arith)

step_grows : {k : Kind} {F : Framed} {σ : Store Term} {F' : Framed} {σ' : Store Term} → FramedReduces k F σ F' σ' → (length σ ≤ length σ') × (sizes σ ≤ sizes σ')
step_grows (stays R h rule) = rule_grows rule
step_grows (enters R h rule) = rule_grows rule

cells_grow : (k : Kind) (n : ℕ) → n ≤ cells_after k n
cells_grow making n = omega arith
cells_grow selecting n = omega arith
cells_grow updating n = omega arith
cells_grow cloning n = omega arith
cells_grow letting n = omega arith

record Grows (c c' : Config) : Type 0 where
  cells_more : cells_of c ≤ cells_of c'
  objects_more : length (objects_of c) ≤ length (objects_of c')
  sizes_more : sizes (objects_of c) ≤ sizes (objects_of c')

grows : {N : ℕ} {ks : List Kind} {c c' : Config} → Moves N ks c c' → Grows c c'
grows stops = record { cells_more = omega arith; objects_more = omega arith; sizes_more = omega arith }
grows (closing h g) = let z = grows g in record { cells_more = z.cells_more; objects_more = z.objects_more; sizes_more = z.sizes_more }
grows (reducing {k = k} {n = n} h l g) =
    let z = grows g in let w = step_grows h in let x = cells_grow k n in
    record { cells_more = omega (arith, z.cells_more, x); objects_more = omega (arith, z.objects_more, w.0); sizes_more = omega (arith, z.sizes_more, w.1) }

-- a reduction that is made was not refused
goes_none : (Λ : Limits) (A n j i : ℕ) (θ : RefTrial) (c : ℕ) (k : Kind) (F : Framed) (σ : Store Term) (F' : Framed) (σ' : Store Term) → Steps k F σ F' σ' →
    j < n → i < A → cells_after k c ≤ Λ.cell_limit → length (waiting F') ≤ Λ.frame_limit → length σ' ≤ Λ.object_limit → sizes σ' ≤ Λ.method_limit → decide Λ A n j i (config F σ θ c) ≡ None
goes_none Λ A n j i θ c making F σ F' σ' h p q hc hf ho hm =
    let b₁ = apart_lt j n p in let b₂ = apart_lt i A q in let b₃ = le-ltb Λ.object_limit (length σ') ho in let b₄ = le-ltb Λ.method_limit (sizes σ') hm in
    decide_step Λ A n j i θ c making F σ F' σ' h ∙ cc
goes_none Λ A n j i θ c selecting F σ F' σ' h p q hc hf ho hm =
    let b₁ = apart_lt j n p in let b₂ = apart_lt i A q in let b₃ = lt-leb Λ.cell_limit c hc in
    let e : length (waiting F') ≡ suc (length (waiting F)) = ap (λ (x : Framed). length (waiting x)) h.after_is in
    let b₄ = lt-leb Λ.frame_limit (length (waiting F)) (omega (arith, e)) in
    decide_step Λ A n j i θ c selecting F σ F' σ' h ∙ cc
goes_none Λ A n j i θ c updating F σ F' σ' h p q hc hf ho hm =
    let b₁ = apart_lt j n p in let b₂ = apart_lt i A q in decide_step Λ A n j i θ c updating F σ F' σ' h ∙ cc
goes_none Λ A n j i θ c cloning F σ F' σ' h p q hc hf ho hm =
    let b₁ = apart_lt j n p in let b₂ = apart_lt i A q in let b₃ = le-ltb Λ.object_limit (length σ') ho in let b₄ = le-ltb Λ.method_limit (sizes σ') hm in
    decide_step Λ A n j i θ c cloning F σ F' σ' h ∙ cc
goes_none Λ A n j i θ c letting F σ F' σ' h p q hc hf ho hm =
    let b₁ = apart_lt j n p in let b₂ = apart_lt i A q in let b₃ = lt-leb Λ.cell_limit c hc in
    let e : length (waiting F') ≡ suc (length (waiting F)) = ap (λ (x : Framed). length (waiting x)) h.after_is in
    let b₄ = lt-leb Λ.frame_limit (length (waiting F)) (omega (arith, e)) in
    decide_step Λ A n j i θ c letting F σ F' σ' h ∙ cc

-- how moves end, with i reductions of this call and κ of the program made before them
record Final (Λ : Limits) (A n i κ : ℕ) (made : List Kind) (c : Config) (a : RunAnswer) : Type 0 where
  j : ℕ
  ks : List Kind
  answers : Ends Λ A n j ks c a
  j_is : j ≡ i + length made
  ks_is : length ks ≡ κ + length made
  few : j ≤ n
  kept : Kept Λ A ks (objects_of c) (cells_of c)

shift : (Λ : Limits) (A n i κ : ℕ) (k : Kind) (made : List Kind) (c : Config) (a : RunAnswer) → Final Λ A n i κ (k ∷ made) c a → Final Λ A n (suc i) (suc κ) made c a
shift Λ A n i κ k made c a f = record { j = f.j; ks = f.ks; answers = f.answers; j_is = omega (arith, f.j_is); ks_is = omega (arith, f.ks_is); few = f.few; kept = f.kept }

final_decides : (Λ : Limits) (A n i κ : ℕ) (c : Config) (a : RunAnswer) → Final Λ A n i κ [] c a → decide Λ A n i κ c ≡ Some (verdict a)
final_decides Λ A n i κ c a f =
    let p : f.j ≡ i = omega (arith, f.j_is) in let q : length f.ks ≡ κ = omega (arith, f.ks_is) in
    subst₂ (λ x y. decide Λ A n x y c ≡ Some (verdict a)) p q (decided_by f.answers)

-- no answer where a frame is to close
no_frame : {Λ : Limits} {A n j : ℕ} {ks : List Kind} {c : Config} {a : RunAnswer} (v : Value) (R : Context) (Rs : List Context) (σ : Store Term) (θ : RefTrial) (m : ℕ) → Ends Λ A n j ks c a →
    c ≡ config (framed (val v) (R ∷ Rs)) σ θ m → ◌≡◌ {A = Option Verdict} (Some (finishes v)) (Some (verdict a)) → ⊥
no_frame v R Rs σ θ m (ends_done p q) e d = cc
no_frame v R Rs σ θ m (ends_20 p h) e d = cc
no_frame v R Rs σ θ m (ends_21 p h) e d = cc
no_frame v R Rs σ θ m (ends_paused p k σ' x q) e d = cc
no_frame v R Rs σ θ m (ends_22 p k σ' x l q) e d = cc
no_frame v R Rs σ θ m (ends_23 p k σ' x o f) e d = cc
no_frame v R Rs σ θ m (ends_24 p k σ' x o f g) e d = cc
no_frame v R Rs σ θ m (ends_25 p k σ' x o f) e d = cc
no_frame v R Rs σ θ m (ends_26 p k σ' x o f g) e d = cc

not_closing : (Λ : Limits) (A n i κ : ℕ) (v : Value) (R : Context) (Rs : List Context) (σ : Store Term) (θ : RefTrial) (m : ℕ) (a : RunAnswer) → Final Λ A n i κ [] (config (framed (val v) (R ∷ Rs)) σ θ m) a → ⊥
not_closing Λ A n i κ v R Rs σ θ m a f = no_frame v R Rs σ θ m f.answers refl (decided_by f.answers)

-- no answer where the other run goes on
not_going : (Λ : Limits) (A n i κ : ℕ) (F : Framed) (σ : Store Term) (θ : RefTrial) (m : ℕ) (a : RunAnswer) (k : Kind) (F' : Framed) (σ' : Store Term) (made : List Kind) (c₂ : Config) (a₂ : RunAnswer) →
    Final Λ A n i κ [] (config F σ θ m) a → FramedReduces k F σ F' σ' → length (waiting F') ≤ Λ.frame_limit →
    Moves Λ.frame_limit made (config F' σ' (trial_after k σ' θ) (cells_after k m)) c₂ → Final Λ A n i κ (k ∷ made) c₂ a₂ → ⊥
not_going Λ A n i κ F σ θ m a k F' σ' made c₂ a₂ f s l g f₂ =
    let d = final_decides Λ A n i κ (config F σ θ m) a f in
    let z = grows g in
    let w = goes_none Λ A n i κ θ m k F σ F' σ' (steps s) (omega (arith, f₂.j_is, f₂.few)) (omega (arith, f₂.ks_is, f₂.kept.allowance_kept))
    (omega (arith, z.cells_more, f₂.kept.cells_kept)) l (omega (arith, z.objects_more, f₂.kept.objects_kept)) (omega (arith, z.sizes_more, f₂.kept.methods_kept)) in
    let x : ◌≡◌ {A = ℕ} 0 1 = cc in omega arith

value_still : (k : Kind) (v : Value) (Rs : List Context) (σ : Store Term) (F' : Framed) (σ' : Store Term) → FramedReduces k (framed (val v) Rs) σ F' σ' → ⊥
value_still k v Rs σ F' σ' s = let h = steps s in let z : ◌≡◌ {A = ℕ} 0 1 = cc h.splits in omega arith

record Same (a₁ a₂ : RunAnswer) (made₁ made₂ : List Kind) (c₁ c₂ : Config) : Type 0 where
  verdicts : verdict a₁ ≡ verdict a₂
  kinds : made₁ ≡ made₂
  configs : c₁ ≡ c₂

step_same : (k₁ k₂ : Kind) (F : Framed) (σ : Store Term) (F₁ : Framed) (σ₁ : Store Term) (F₂ : Framed) (σ₂ : Store Term) →
    Steps k₁ F σ F₁ σ₁ → Steps k₂ F σ F₂ σ₂ → (k₂ ≡ k₁) × (F₂ ≡ F₁) × (σ₂ ≡ σ₁)
step_same k₁ k₂ F σ F₁ σ₁ F₂ σ₂ f g =
    let p₁ = f.splits in let p₂ = g.splits in let q₁ = f.does in let q₂ = g.does in
    let e₀ : at g.context g.redex ≡ at f.context f.redex = sym p₂ ∙ p₁ in
    let e₁ : k₂ ≡ k₁ = cc in let e₂ : g.context ≡ f.context = cc in let e₃ : g.result ≡ f.result = cc in let e₄ : σ₂ ≡ σ₁ = cc in
    (e₁, g.after_is ∙ cc (e₁, e₂, e₃) ∙ sym f.after_is, e₄)

module _ (Λ : Limits) (A n : ℕ) (a₁ a₂ : RunAnswer) where
  one : {made₁ : List Kind} {c c₁ : Config} → Moves Λ.frame_limit made₁ c c₁ → {made₂ : List Kind} {c₂ : Config} → Moves Λ.frame_limit made₂ c c₂ → (i κ : ℕ) →
      Final Λ A n i κ made₁ c₁ a₁ → Final Λ A n i κ made₂ c₂ a₂ → Same a₁ a₂ made₁ made₂ c₁ c₂
  one (stops {c = c}) stops i κ f g =
      let p = final_decides Λ A n i κ c a₁ f in let q = final_decides Λ A n i κ c a₂ g in record { verdicts = cc; kinds = refl; configs = refl }
  one stops (closing (closes {v} {R} {Rs}) h) i κ f g = absurd (not_closing Λ A n i κ v R Rs _ _ _ a₁ f)
  one stops (reducing {k} {F} {F'} {σ} {σ'} {θ} {n = m} {ks} {c = c₂} s l h) i κ f g = absurd (not_going Λ A n i κ F σ θ m a₁ k F' σ' ks c₂ a₂ f s l h g)
  one (closing (closes {v} {R} {Rs}) h) stops i κ f g = absurd (not_closing Λ A n i κ v R Rs _ _ _ a₂ g)
  one (closing closes h₁) (closing closes h₂) i κ f g = one h₁ h₂ i κ f g
  one (closing closes h₁) (reducing s l h₂) i κ f g = absurd (value_still _ _ _ _ _ _ s)
  one (reducing {k} {F} {F'} {σ} {σ'} {θ} {n = m} {ks} {c = c₁} s l h) stops i κ f g = absurd (not_going Λ A n i κ F σ θ m a₂ k F' σ' ks c₁ a₁ g s l h f)
  one (reducing s l h₁) (closing closes h₂) i κ f g = absurd (value_still _ _ _ _ _ _ s)
  one (reducing {k = k₁} {F} {F' = F₁} {σ} {σ' = σ₁} {θ} {n = m} {ks = ks₁} {c = d₁} s₁ l₁ h₁) (reducing {k = k₂} {F' = F₂} {σ' = σ₂} {ks = ks₂} {c = d₂} s₂ l₂ h₂) i κ f g =
      let e = step_same k₁ k₂ F σ F₁ σ₁ F₂ σ₂ (steps s₁) (steps s₂) in
      let e₁ = e.0 in let e₂ = e.1 in let e₄ = e.2 in
      let q : config F₂ σ₂ (trial_after k₂ σ₂ θ) (cells_after k₂ m) ≡ config F₁ σ₁ (trial_after k₁ σ₁ θ) (cells_after k₁ m) = cc in
      let r = one h₁ (subst (λ x. Moves Λ.frame_limit ks₂ x d₂) q h₂) (suc i) (suc κ) (shift Λ A n i κ k₁ ks₁ d₁ a₁ f) (shift Λ A n i κ k₂ ks₂ d₂ a₂ g) in
      record { verdicts = r.verdicts; kinds = ap₂ (λ (x : Kind) (y : List Kind). x ∷ y) (sym e₁) r.kinds; configs = r.configs }

abbrev reference_after : Reference → RunAnswer → List Kind → Config → Reference
reference_after R a ks c = record { limits = R.limits; terms = R.terms; now = c; allowance = R.allowance; kinds = R.kinds ++ ks; progress = progress_after a }

abbrev progress_of : Verdict → Progress
progress_of (finishes v) = Ended
progress_of pauses = Running
progress_of (faults f) = Ended
progress_of idles = Ended

progress_verdict : (a : RunAnswer) → progress_after a ≡ progress_of (verdict a)
progress_verdict run.NotRunning = refl
progress_verdict (run.Done v r) = refl
progress_verdict (run.Paused r) = refl
progress_verdict (run.Refused f p r) = refl

final_of : (n : ℕ) (R : Reference) (a : RunAnswer) (R' : Reference) (h : RefRan n R a R') → Final R.limits R.allowance n 0 (length R.kinds) h.made h.after a
final_of n R a R' h =
    record { j = length h.made; ks = R.kinds ++ h.made; answers = h.answers; j_is = omega arith; ks_is = length-append R.kinds h.made; few = h.few; kept = h.kept }

pub unique : Unique
unique n R a₁ a₂ R₁ R₂ h g =
    let z = one R.limits R.allowance n a₁ a₂ h.moves g.moves 0 (length R.kinds) (final_of n R a₁ R₁ h) (final_of n R a₂ R₂ g) in
    let p : progress_after a₁ ≡ progress_after a₂ = progress_verdict a₁ ∙ ap progress_of z.verdicts ∙ sym (progress_verdict a₂) in
    let e₁ = h.gives in let e₂ = g.gives in
    (z.verdicts, e₁ ∙ subst₃ (λ π ks c. reference_after R a₁ h.made h.after ≡ record { limits = R.limits; terms = R.terms; now = c; allowance = R.allowance; kinds = R.kinds ++ ks; progress = π }) p z.kinds z.configs refl ∙ sym e₂)

-- 19 is no answer
not_19 : (f g : Fault) (n : ℕ) → fault_number f ≡ n → (n ≡ 19 → ⊥) → faults f ≡ faults g → fault_number g ≡ 19 → ⊥
not_19 f g n p q e h = let z : f ≡ g = cc in q (sym p ∙ ap fault_number z ∙ h)

astray_not : {Λ : Limits} {A n j : ℕ} {ks : List Kind} {c : Config} {a : RunAnswer} → Ends Λ A n j ks c a → (f : Fault) → verdict a ≡ faults f → fault_number f ≡ 19 → ⊥
astray_not (ends_done p q) f e h = cc
astray_not (ends_20 p x) f e h = not_19 fault.FigureTaken f 20 refl (λ z. omega arith) e h
astray_not (ends_21 p x) f e h = not_19 fault.LabelMissing f 21 refl (λ z. omega arith) e h
astray_not (ends_paused p k σ' x q) f e h = cc
astray_not (ends_22 p k σ' x l q) f e h = not_19 fault.AllowanceSpent f 22 refl (λ z. omega arith) e h
astray_not (ends_23 p k σ' x o q) f e h = not_19 fault.CellsFull f 23 refl (λ z. omega arith) e h
astray_not (ends_24 p k σ' x o q g) f e h = not_19 fault.StackFull f 24 refl (λ z. omega arith) e h
astray_not (ends_25 p k σ' x o q) f e h = not_19 (fault.Store ObjectsFull) f 25 refl (λ z. omega arith) e h
astray_not (ends_26 p k σ' x o q g) f e h = not_19 (fault.Store MethodsFull) f 26 refl (λ z. omega arith) e h

pub never_astray : NeverAstray
never_astray Λ A n j ks c a h = astray_not h

-- what each answer shows
stuck_by : (Rs : List Context) (t : Term) (σ : Store Term) (f : Fault) (R : Context) (a : Term) → t ≡ plug R a → Idles a σ f → Stuck (plug_all Rs t) σ
stuck_by Rs t σ f R a e h = subst (λ x. Stuck (plug_all Rs x) σ) (sym (e ∙ ap (plug R) h.is)) (idle_under Rs R h.redex σ h.does)

can : (k : Kind) (F : Framed) (σ σ' : Store Term) → NextStep k F σ σ' → Reducible (whole F) σ
can k F σ σ' x = record { kind = k; term = _; store = σ'; reduction = framed_reduces x.step }

shows : {Λ : Limits} {A n j : ℕ} {ks : List Kind} {c : Config} {a : RunAnswer} → Ends Λ A n j ks c a → Shows (verdict a) (whole_of c) (objects_of c)
shows (ends_done p q) = refl
shows (ends_20 {t} {Rs} {σ} p h) = stuck_by Rs t σ fault.FigureTaken h.context h.redex h.is (figure_idles h.has σ)
shows (ends_21 {t} {Rs} {σ} p h) = stuck_by Rs t σ fault.LabelMissing h.context h.redex h.is (label_idles h.has)
shows (ends_paused {F} {σ} p k σ' x q) = can k F σ σ' x
shows (ends_22 {F} {σ} p k σ' x l q) = can k F σ σ' x
shows (ends_23 {F} {σ} p k σ' x o f) = can k F σ σ' x.next
shows (ends_24 {F} {σ} p k σ' x o f g) = can k F σ σ' x.next
shows (ends_25 {F} {σ} p k σ' x o f) = can k F σ σ' x.next
shows (ends_26 {F} {σ} p k σ' x o f g) = can k F σ σ' x.next

pub ends_show : EndsShow
ends_show Λ A n j ks c a h = shows h
