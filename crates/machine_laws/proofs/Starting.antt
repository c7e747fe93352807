-- The start of a program.
use Rattle.std.proofs.Common.{◌≡◌, ℕ, ◌+◌, ◌≤◌, Bool, true, false, cond, ◌&&◌, eqb, leb, List, [], ◌∷◌, length, Some, None, Ok, Err, Option, Result, sym, refl, ap, ◌∙◌, subst, arith, length-append, ltb-true, eqb-true, leb-true}
use lib.ListN.{length-map}
use Rattle.calculus.specs.Places.{if_some}
use Rattle.calculus.specs.Text.{main_mark, Text}
use Rattle.calculus.specs.Terms.{val, Closed, Within}
use Rattle.calculus.specs.Trees.{Code, trans, done}
use Rattle.calculus.specs.Standing.{Stands, Program}
use Rattle.calculus.specs.declared.refusals.Refusal.{Refusal}
use Rattle.calculus.specs.declared.refusals.Refusal.TheVariants as refusal
use Rattle.calculus.specs.declared.values.Value.{Value}
use Rattle.calculus.specs.declared.values.Value.TheVariants as value
use Rattle.store.specs.Meaning.{Meaning, Object}
use Rattle.machine_model.specs.declared.state.Cell.{Cell}
use Rattle.machine_model.specs.declared.state.Progress.{Progress}
use Rattle.machine_model.specs.declared.state.Progress.TheVariants.{Unused, Running, Ended}
use Rattle.machine_model.specs.State.{State}
use Rattle.machine_model.specs.Start.{cells_with, env_with, givens_of, present, all_present, start_for, start_in, start_result}
use Rattle.semantics.specs.Reduction.{WellFormed, ValuesWithin}
use Rattle.semantics.specs.Machine.{TreeStore}
use Rattle.semantics.specs.Unloading.{unload_store}
use Rattle.semantics.proofs.Translating.{unload_trans}
use Rattle.semantics.proofs.WellFormed.{starts_well_formed}
use Rattle.machine_laws.specs.Standing.{EnvStands, StoreStands}
use Rattle.machine_laws.specs.Starting.{StartsStand}
use Rattle.machine_laws.proofs.Growing.{store_cells}
use Rattle.machine_laws.proofs.Placing.{stands_length}
use Rattle.machine_laws.proofs.Judging.{at_start, env_push}

-- the givens
pub cells_length : (cells : List Cell) (vs : List Value) → length (cells_with cells vs) ≡ length cells + length vs
cells_length cells [] = omega arith
cells_length cells (v ∷ vs) = omega (arith, cells_length cells vs, length-append (cells_with cells vs) (record { value = v; parent = env_with cells vs } ∷ []))

env_given : (cells : List Cell) (vs : List Value) → EnvStands (cells_with cells vs) (env_with cells vs) vs
env_given cells [] = refl
env_given cells (v ∷ vs) = env_push (cells_with cells vs) v (env_with cells vs) vs (env_given cells vs)

pub store_given : (T : Text) (cells : List Cell) (vs : List Value) (os : List Object) (σ : TreeStore) → StoreStands T cells os σ → StoreStands T (cells_with cells vs) os σ
store_given T cells [] os σ h = h
store_given T cells (v ∷ vs) os σ h = store_cells T (cells_with cells vs) (record { value = v; parent = env_with cells vs } ∷ []) os σ (store_given T cells vs os σ h)

pub both : (a b : Bool) → (a && b) ≡ true → (a ≡ true) × (b ≡ true)
both true true h = (refl, refl)
both true false h = (refl, h)
both false b h = (h, cc)

present_within : (n : ℕ) (v : Value) → present n v ≡ true → Within n (val v)
present_within n (value.Figure k) h = tt
present_within n (value.Location l) h = ltb-true l n h

pub all_within : (n : ℕ) (vs : List Value) → all_present n vs ≡ true → ValuesWithin n vs
all_within n [] h = tt
all_within n (v ∷ vs) h = let p = both (present n v) (all_present n vs) h in (present_within n v p.0, all_within n vs p.1)

-- what an accepted start says of its program and givens
refused_not : {A : Type 0} (e : Refusal) → ◌≡◌ {A = Result Unit Refusal} (Err e) (Ok tt) → A
refused_not e h = cc

pub record Accepted (g n : ℕ) (s : State) (vs : List Value) : Type 0 where
  pub givens_are : g ≡ length vs
  pub all_there : all_present n vs ≡ true
  pub room_there : length s.cells + length vs ≤ s.cell_room

accepted_by : (g n : ℕ) (s : State) (vs : List Value) (b₁ b₂ b₃ : Bool) → eqb g (length vs) ≡ b₁ → all_present n vs ≡ b₂ → leb (length s.cells + length vs) s.cell_room ≡ b₃ →
    ◌≡◌ {A = Result Unit Refusal} (cond b₁ (cond b₂ (cond b₃ (Ok tt) (Err refusal.CellsShort)) (Err refusal.NoSuchObject)) (Err refusal.WrongGivens)) (Ok tt) → Accepted g n s vs
accepted_by g n s vs false b₂ b₃ p q r h = refused_not refusal.WrongGivens h
accepted_by g n s vs true false b₃ p q r h = refused_not refusal.NoSuchObject h
accepted_by g n s vs true true false p q r h = refused_not refusal.CellsShort h
accepted_by g n s vs true true true p q r h = record { givens_are = eqb-true g (length vs) p; all_there = q; room_there = leb-true (length s.cells + length vs) s.cell_room r }

accepted_for : (x : Option ℕ) (g n : ℕ) (s : State) (vs : List Value) → x ≡ Some g → start_for x n s vs ≡ Ok tt → Accepted g n s vs
accepted_for None g n s vs e h = refused_not refusal.NoProgram h
accepted_for (Some k) g n s vs e h =
    let z : k ≡ g = cc in
    subst (λ i. Accepted i n s vs) z (accepted_by k n s vs (eqb k (length vs)) (all_present n vs) (leb (length s.cells + length vs) s.cell_room) refl refl refl h)

accepted_in : (q : Progress) (T : Text) (s : State) (m : Meaning) (p : ℕ) (vs : List Value) (g : ℕ) → givens_of T p ≡ Some g → start_in q T s m p vs ≡ Ok tt → Accepted g (length m.objects) s vs
accepted_in Unused T s m p vs g e h = accepted_for (givens_of T p) g (length m.objects) s vs e h
accepted_in Running T s m p vs g e h = refused_not refusal.Running h
accepted_in Ended T s m p vs g e h = accepted_for (givens_of T p) g (length m.objects) s vs e h

pub accepted : (T : Text) (s : State) (m : Meaning) (p : ℕ) (vs : List Value) (g : ℕ) → givens_of T p ≡ Some g → start_result T s m p vs ≡ Ok tt → Accepted g (length m.objects) s vs
accepted T s m p vs g e h = accepted_in s.registers.progress T s m p vs g e h

pub program_givens : (T : Text) (p g : ℕ) (c : Code) → Program T p g c → givens_of T p ≡ Some g
program_givens T p g c h = ap (λ x. if_some x (λ e. main_mark e.mark) None) h.found ∙ ap main_mark h.holds.0

pub program_stands : (T : Text) (p g : ℕ) (c : Code) → Program T p g c → Stands T p c
program_stands T p g c h = record { entry = h.entry; found = h.found; holds = h.holds.1 }

pub starts_stand : StartsStand
starts_stand T s m p vs A g t σ h hs hc hst hwf e =
    let a = accepted T s m p vs g (program_givens T p g (trans t done) h) e in
    let n : length m.objects ≡ length (unload_store σ) = stands_length T s.cells m.objects σ hst ∙ sym (length-map σ _) in
    let w = starts_well_formed t vs (unload_store σ) hs (subst (λ i. Closed i t) a.givens_are hc) (all_within (length (unload_store σ)) vs (subst (λ i. all_present i vs ≡ true) n a.all_there)) hwf in
    record {
      standing = record {
        stands = (refl, at_start T p (trans t done) (program_stands T p g (trans t done) h), env_given s.cells vs, tt);
        store_stands = store_given T s.cells vs m.objects σ hst;
        well_formed = subst (λ x. WellFormed x (unload_store σ)) (sym (unload_trans 0 vs t hs done)) w;
      };
      since = record { reports = record { objects_made = refl; selects_made = refl; updates_made = refl; clones_made = refl; lets_made = refl }; paid = refl; left = omega arith };
    }
