-- What stands for the reference's trial, as cells, tables, objects and updates come.
use Rattle.std.proofs.Common.{slice_get, ◌≡◌, ℕ, suc, ◌+◌, ◌≤◌, Bool, true, false, cond, ltb, List, [], ◌∷◌, ◌++◌, map, length, set, Some, sym, refl, ap, ◌∙◌, subst, subst₂, arith, length-append, length-set, ltb-false, ltb-true}
use Rattle.calculus.specs.Terms.{Term}
use Rattle.calculus.specs.Text.{Text, joined}
use Rattle.calculus.specs.Trees.{Code}
use Rattle.store.specs.declared.closures.Closure.{Closure}
use Rattle.store.specs.declared.closures.Method.{Method}
use Rattle.store.specs.declared.closures.OldMethod.{OldMethod}
use Rattle.store.specs.Meaning.{Meaning, Object, Trial, no_trial, closed, opened, overrun, with_closure, noted, updated}
use Rattle.trial_layer.specs.Laws.{AllPlaced}
use Rattle.trial_layer.specs.Trials.{undo}
use Rattle.trial_layer.proofs.Booking.{placed_front, placed_set, placed_push}
use Rattle.store.proofs.Nth.{nth_some, nth_set}
use Rattle.trial_layer.proofs.Undoing.{undo_front, undo_put}
use Rattle.machine_model.specs.declared.state.Cell.{Cell}
use Rattle.semantics.specs.Objects.{Store, relabel}
use Rattle.semantics.specs.Objects as objects
use Rattle.semantics.specs.Reduction.{Kind, making, selecting, updating, cloning, letting, WellFormedBody, WellFormedStore}
use Rattle.semantics.specs.Machine.{TreeStore}
use Rattle.semantics.specs.Machine as tree
use Rattle.semantics.specs.Unloading.{unload_closure, unload_store}
use Rattle.semantics.proofs.Objects.{object_has, push_has, store_grows, push_maps}
use Rattle.semantics.proofs.WellFormed.{within_grows}
use Rattle.reference.specs.Configurations.{sizes, RefTrial, absent, shut, on_trial, newest, trial_after}
use Rattle.reference.specs.Answers.{Adds, Opens}
use Rattle.reference.proofs.Deciding.{sizes_append}
use Rattle.machine_laws.specs.Standing.{ObjectStands, StoreStands}
use Rattle.machine_laws.proofs.Growing.{store_cells, store_tables}
use Rattle.machine_laws.proofs.Placing.{stands_push}
use Rattle.session_laws.specs.Agreement.{Second, TrialStands}

-- from tables and cells to others in which no less stands
module _ (T U : Text) (cs ds : List Cell) (f : (os : List Object) (σ : TreeStore) → StoreStands T cs os σ → StoreStands U ds os σ) where
  second_on : (os : List Object) (σ σ₂ : Store Term) → Second T cs os σ σ₂ → Second U ds os σ σ₂
  second_on os σ σ₂ h = record { store = h.store; stands = f os h.store h.stands; is = h.is; same_length = h.same_length; same_size = h.same_size; well_formed = h.well_formed }

  trial_on : (os : List Object) (σ : Store Term) (t : Trial) (θ : RefTrial) → TrialStands T cs os σ t θ → TrialStands U ds os σ t θ
  trial_on os σ no_trial absent h = tt
  trial_on os σ no_trial (shut n') h = absurd h
  trial_on os σ no_trial (on_trial n' σ₂ u) h = absurd h
  trial_on os σ (closed n) absent h = absurd h
  trial_on os σ (closed n) (shut n') h = h
  trial_on os σ (closed n) (on_trial n' σ₂ u) h = absurd h
  trial_on os σ (opened n notes) absent h = absurd h
  trial_on os σ (opened n notes) (shut n') h = absurd h
  trial_on os σ (opened n notes) (on_trial n' σ₂ u) h = (h.0, h.1, h.2, h.3, second_on (undo notes os) σ σ₂ h.4)
  trial_on os σ (overrun n) absent h = absurd h
  trial_on os σ (overrun n) (shut n') h = absurd h
  trial_on os σ (overrun n) (on_trial n' σ₂ u) h = h

pub trial_cells : (T : Text) (cs ds : List Cell) (os : List Object) (σ : Store Term) (t : Trial) (θ : RefTrial) → TrialStands T cs os σ t θ → TrialStands T (cs ++ ds) os σ t θ
trial_cells T cs ds = trial_on T T cs (cs ++ ds) (store_cells T cs ds)

pub trial_tables : (T U : Text) (cs : List Cell) (os : List Object) (σ : Store Term) (t : Trial) (θ : RefTrial) → TrialStands T cs os σ t θ → TrialStands (joined T U) cs os σ t θ
trial_tables T U cs = trial_on T (joined T U) cs cs (store_tables T U cs)

-- a select or a let leaves the trial
pub trial_opens : (k : Kind) (σ : Store Term) (θ : RefTrial) → Opens k → trial_after k σ θ ≡ θ
trial_opens k σ absent h = refl
trial_opens k σ (shut n) h = refl
trial_opens making σ (on_trial n σ₂ u) h = absurd h
trial_opens selecting σ (on_trial n σ₂ u) h = refl
trial_opens updating σ (on_trial n σ₂ u) h = absurd h
trial_opens cloning σ (on_trial n σ₂ u) h = absurd h
trial_opens letting σ (on_trial n σ₂ u) h = refl

-- a new object enters both lists
newest_last : (σ : Store Term) (x : objects.Object Term) → newest (σ ++ (x ∷ [])) ≡ x ∷ []
newest_last [] x = refl
newest_last (y ∷ []) x = refl
newest_last (y ∷ (z ∷ σ)) x = newest_last (z ∷ σ) x

nth_end : (σ : Store Term) (x : objects.Object Term) → slice_get (σ ++ (x ∷ [])) (length σ) ≡ Some x
nth_end [] x = refl
nth_end (y ∷ σ) x = nth_end σ x

second_push : (T : Text) (cells : List Cell) (σ : Store Term) (os : List Object) (σ₂ : Store Term) (o : Object) (x : objects.Object (tree.Closure Code)) →
    Second T cells os σ σ₂ → ObjectStands T cells o x → WellFormedStore (length (σ ++ (map (relabel unload_closure) x ∷ []))) (σ ++ (map (relabel unload_closure) x ∷ [])) →
    Second T cells (os ++ (o ∷ [])) (σ ++ (map (relabel unload_closure) x ∷ [])) (σ₂ ++ newest (σ ++ (map (relabel unload_closure) x ∷ [])))
second_push T cells σ os σ₂ o x h ho hs =
    let y : objects.Object Term = map (relabel unload_closure) x in
    let σ' : Store Term = σ ++ (y ∷ []) in
    let l₁ : length σ' ≡ length σ + 1 = length-append σ (y ∷ []) in
    let l₂ : length (σ₂ ++ (y ∷ [])) ≡ length σ₂ + 1 = length-append σ₂ (y ∷ []) in
    let le : length σ ≤ length σ' = omega (arith, l₁) in
    let g = object_has (WellFormedBody (length σ')) σ' (length σ) y hs (nth_end σ y) in
    subst (λ w. Second T cells (os ++ (o ∷ [])) σ' (σ₂ ++ w)) (sym (newest_last σ y))
    (record {
      store = h.store ++ (x ∷ []);
      stands = stands_push T cells os h.store o x h.stands ho;
      is = push_maps unload_closure h.store x ∙ ap (λ (w : Store Term). w ++ (y ∷ [])) h.is;
      same_length = omega (arith, l₁, l₂, h.same_length);
      same_size = omega (arith, sizes_append σ (y ∷ []), sizes_append σ₂ (y ∷ []), h.same_size);
      well_formed = push_has (WellFormedBody (length σ')) σ₂ y
          (store_grows (WellFormedBody (length σ)) (WellFormedBody (length σ')) (λ b w. (w.0, within_grows (length σ) (length σ') le b w.1)) σ₂ h.well_formed) g;
    })

module _ (T : Text) (cells : List Cell) (os : List Object) (s : TreeStore) (o : Object) (x : objects.Object (tree.Closure Code)) (ho : ObjectStands T cells o x)
    (hs : WellFormedStore (length (unload_store (s ++ (x ∷ [])))) (unload_store (s ++ (x ∷ [])))) where
  opened_adds : (n n' u : ℕ) (notes : List OldMethod) (σ₂ : Store Term) → TrialStands T cells os (unload_store s) (opened n notes) (on_trial n' σ₂ u) →
      TrialStands T cells (os ++ (o ∷ [])) (unload_store (s ++ (x ∷ []))) (opened n notes) (on_trial n' (σ₂ ++ newest (unload_store (s ++ (x ∷ [])))) u)
  opened_adds n n' u notes σ₂ h = (
    h.0,
    h.1,
    h.2,
    placed_front os (o ∷ []) notes h.3,
    subst₂ (λ ps y. Second T cells ps y (σ₂ ++ newest y)) (sym (undo_front notes os (o ∷ []) h.3)) (sym (push_maps unload_closure s x))
        (second_push T cells (unload_store s) (undo notes os) σ₂ o x h.4 ho (subst (λ y. WellFormedStore (length y) y) (push_maps unload_closure s x) hs)),
  )

  pub trial_adds : (t : Trial) (θ : RefTrial) (k : Kind) → Adds k → TrialStands T cells os (unload_store s) t θ →
      TrialStands T cells (os ++ (o ∷ [])) (unload_store (s ++ (x ∷ []))) t (trial_after k (unload_store (s ++ (x ∷ []))) θ)
  trial_adds no_trial absent k a h = tt
  trial_adds no_trial (shut n') k a h = absurd h
  trial_adds no_trial (on_trial n' σ₂ u) k a h = absurd h
  trial_adds (closed n) absent k a h = absurd h
  trial_adds (closed n) (shut n') k a h = h
  trial_adds (closed n) (on_trial n' σ₂ u) k a h = absurd h
  trial_adds (opened n notes) absent k a h = absurd h
  trial_adds (opened n notes) (shut n') k a h = absurd h
  trial_adds (opened n notes) (on_trial n' σ₂ u) making a h = opened_adds n n' u notes σ₂ h
  trial_adds (opened n notes) (on_trial n' σ₂ u) selecting a h = absurd a
  trial_adds (opened n notes) (on_trial n' σ₂ u) updating a h = absurd a
  trial_adds (opened n notes) (on_trial n' σ₂ u) cloning a h = opened_adds n n' u notes σ₂ h
  trial_adds (opened n notes) (on_trial n' σ₂ u) letting a h = absurd a
  trial_adds (overrun n) absent k a h = absurd h
  trial_adds (overrun n) (shut n') k a h = absurd h
  trial_adds (overrun n) (on_trial n' σ₂ u) making a h = h
  trial_adds (overrun n) (on_trial n' σ₂ u) selecting a h = absurd a
  trial_adds (overrun n) (on_trial n' σ₂ u) updating a h = absurd a
  trial_adds (overrun n) (on_trial n' σ₂ u) cloning a h = h
  trial_adds (overrun n) (on_trial n' σ₂ u) letting a h = absurd a

-- an update alters the first list only, and the book has a note more
module _ (T : Text) (cells : List Cell) (os : List Object) (l p : ℕ) (c : Closure) (o : Object) (x : Method) (ho : Some o ≡ slice_get os l) (hx : Some x ≡ slice_get o p)
    (σ σ' : Store Term) (same_length : length σ' ≡ length σ) (same_size : sizes σ' ≡ sizes σ) where
  abbrev note : OldMethod
  note = record { location = l; place = p; closure = x.closure }

  abbrev after : List Object
  after = set os l (set o p (with_closure x c))

  second_alters : (ps qs : List Object) (σ₂ : Store Term) → qs ≡ ps → Second T cells ps σ σ₂ → Second T cells qs σ' σ₂
  second_alters ps qs σ₂ e h =
      record {
        store = h.store;
        stands = subst (λ y. StoreStands T cells y h.store) (sym e) h.stands;
        is = h.is;
        same_length = h.same_length ∙ sym same_length;
        same_size = h.same_size ∙ sym same_size;
        well_formed = subst (λ n. WellFormedStore n σ₂) (sym same_length) h.well_formed;
      }

  notes_placed : (notes : List OldMethod) → AllPlaced os notes → AllPlaced after (notes ++ (note ∷ []))
  notes_placed notes h =
      let q : Object = set o p (with_closure x c) in
      let e : length q ≡ length o = length-set o p (with_closure x c) in
      placed_push after notes note (placed_set o q e os l ho notes h) (q, sym (nth_set os l o q (sym ho)), omega (arith, e, nth_some o p x (sym hx)))

  noted_by : (n n' u : ℕ) (notes : List OldMethod) (σ₂ : Store Term) (b : Bool) → ltb (length notes) 256 ≡ b → TrialStands T cells os σ (opened n notes) (on_trial n' σ₂ u) →
      TrialStands T cells after σ' (cond b (opened n (notes ++ (note ∷ []))) (overrun n)) (on_trial n' σ₂ (suc u))
  noted_by n n' u notes σ₂ true e h =
      let i = ltb-true (length notes) 256 e in
      (h.0, omega (arith, length-append notes (note ∷ []), h.1), omega (arith, h.1, i), notes_placed notes h.3, second_alters (undo notes os) (undo (notes ++ (note ∷ [])) after) σ₂ (undo_put os l p c o x ho hx notes) h.4)
  noted_by n n' u notes σ₂ false e h = let i = ltb-false (length notes) 256 e in (h.0, omega (arith, h.1, i))

  trial_notes : (t : Trial) (θ : RefTrial) → TrialStands T cells os σ t θ → TrialStands T cells after σ' (noted note t) (trial_after updating σ' θ)
  trial_notes no_trial absent h = tt
  trial_notes no_trial (shut n') h = absurd h
  trial_notes no_trial (on_trial n' σ₂ u) h = absurd h
  trial_notes (closed n) absent h = absurd h
  trial_notes (closed n) (shut n') h = h
  trial_notes (closed n) (on_trial n' σ₂ u) h = absurd h
  trial_notes (opened n notes) absent h = absurd h
  trial_notes (opened n notes) (shut n') h = absurd h
  trial_notes (opened n notes) (on_trial n' σ₂ u) h = noted_by n n' u notes σ₂ (ltb (length notes) 256) refl h
  trial_notes (overrun n) absent h = absurd h
  trial_notes (overrun n) (shut n') h = absurd h
  trial_notes (overrun n) (on_trial n' σ₂ u) h = (h.0, omega (arith, h.1))

  -- the same of what the store means after the update
  pub trial_alters : (m : Meaning) (θ : RefTrial) → m.objects ≡ os → TrialStands T cells os σ m.trial θ →
      TrialStands T cells (updated m l p c).objects σ' (updated m l p c).trial (trial_after updating σ' θ)
  trial_alters m θ e h =
      let f₁ : (updated m l p c).objects ≡ after = cc in
      let f₂ : (updated m l p c).trial ≡ noted note m.trial = cc in
      subst₂ (λ ps t. TrialStands T cells ps σ' t (trial_after updating σ' θ)) (sym f₁) (sym f₂) (trial_notes m.trial θ h)
