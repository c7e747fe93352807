-- The book of an open trial, over every run of a layer's calls.
use Rattle.std.proofs.Common.{◌≡◌, ℕ, ◌+◌, ◌≤◌, Bool, true, false, cond, ltb, List, [], ◌∷◌, length, Some, None, Option, sym, refl, ap, ◌∙◌, subst, ⊎_elim, arith}
use Rattle.std.proofs.lemmas.Bool.{cases_lt}
use Rattle.calculus.specs.Places.{if_some}
use Rattle.calculus.specs.declared.code.MethodEntry.{MethodEntry}
use Rattle.store.specs.declared.closures.OldMethod.{OldMethod}
use Rattle.store.specs.Meaning.{Meaning, Trial, no_trial, closed, opened, overrun, noted}
use Rattle.store_laws.specs.declared.runs.StoreCall.{StoreCall}
use Rattle.store_laws.specs.Runs.{meaning_after}
use Rattle.trial_layer.specs.declared.faults.TrialFault.{TrialFault}
use Rattle.trial_layer.specs.Laws.{AllPlaced, LayerCall, of_store, open_trial, keep_trial, put_back_trial, layer_after, layer_after_all, BooksInOrder}
use Rattle.trial_layer.specs.Runs.{updates_by}
use Rattle.trial_layer.specs.Trials.{with_trial, trial_opened, is_open, back_fault, undone}
use Rattle.trial_layer.proofs.Booking.{booked}
use Rattle.trial_layer.proofs.Running.{unaltered}
use Rattle.trial_layer.proofs.Undoing.{undo_front}

abbrev Good : Meaning → Type 0
Good m = (n : ℕ) (notes : List OldMethod) → m.trial ≡ opened n notes → AllPlaced m.objects notes × (length notes ≤ 256)

not_open : {A : Type 0} {n k : ℕ} {notes : List OldMethod} {t : Trial} → t ≡ closed k → t ≡ opened n notes → A
not_open h e = absurd cc

after_store : (table : List MethodEntry) (m : Meaning) (t : Trial) → m.trial ≡ t → Good m → (c : StoreCall) → Good (meaning_after table m c)
after_store table m no_trial h g c n notes e = let s = unaltered table m c (λ old. ap (noted old) h ∙ sym h) in absurd cc
after_store table m (closed k) h g c n notes e = not_open (unaltered table m c (λ old. ap (noted old) h ∙ sym h) ∙ h) e
after_store table m (overrun k) h g c n notes e = let s = unaltered table m c (λ old. ap (noted old) h ∙ sym h) in absurd cc
after_store table m (opened k old) h g c n notes e =
    let b = booked table m k old h (g k old h).0 (g k old h).1 c in
    ⊎_elim
    (λ many. let s = b.overruns many in absurd cc)
    (λ room.
    let those = (b.notes_it room).0 in
    let now = (b.notes_it room).1 in
    let same : those ≡ notes = let s = now.trial_is in cc in
    (subst (λ ns. AllPlaced (meaning_after table m c).objects ns) same now.places, omega (arith, ap length same, now.counts)))
    (cases_lt 256 (length old + updates_by table m c))

after_open : (m : Meaning) (t : Trial) → m.trial ≡ t → Good m → Good (with_trial m (trial_opened t))
after_open m no_trial h g n notes e = absurd cc
after_open m (closed k) h g n notes e = by (ltb k 4294967295) e
  where
    by : (b : Bool) → cond b (opened (k + 1) []) (closed k) ≡ opened n notes → AllPlaced m.objects notes × (length notes ≤ 256)
    by true q = let none : [] ≡ notes = cc in (subst (λ ns. AllPlaced m.objects ns) none tt, omega (arith, ap length none))
    by false q = not_open refl q
after_open m (opened k old) h g n notes e = g n notes (h ∙ e)
after_open m (overrun k) h g n notes e = absurd cc

after_keep : (m : Meaning) (k : ℕ) (b : Bool) → Good m → Good (cond b (with_trial m (closed k)) m)
after_keep m k true g n notes e = not_open refl e
after_keep m k false g n notes e = g n notes e

after_put_back : (m : Meaning) (k : ℕ) (f : Option TrialFault) → Good m → Good (if_some f (λ fault. m) (undone m k))
after_put_back m k None g n notes e = not_open refl e
after_put_back m k (Some fault) g n notes e = g n notes e

all_good : (table : List MethodEntry) (m : Meaning) (calls : List LayerCall) → Good m → Good (layer_after_all table m calls)
all_good table m [] g = g
all_good table m (c ∷ calls) g = all_good table (layer_after table m c) calls (one c)
  where
    one : (c : LayerCall) → Good (layer_after table m c)
    one (of_store x) = after_store table m m.trial refl g x
    one open_trial = after_open m m.trial refl g
    one (keep_trial k) = after_keep m k (is_open m.trial k) g
    one (put_back_trial k) = after_put_back m k (back_fault m.trial k) g

pub in_order : BooksInOrder
in_order below table calls n notes e =
    let m = layer_after_all table (with_trial below (closed 0)) calls in
    let g = all_good table (with_trial below (closed 0)) calls (λ k ns q. not_open refl q) n notes e in
    record {
      placed = g.0;
      few = g.1;
      enters = λ new. undo_front notes m.objects new g.0;
      books = λ t. booked t m n notes e g.0 g.1;
    }
