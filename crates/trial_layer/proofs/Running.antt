-- A trial's book over runs of calls.
use Rattle.std.proofs.Common.{◌≡◌, ℕ, ◌+◌, ◌<◌, ◌≤◌, Bool, true, false, cond, ltb, List, [], ◌∷◌, ◌++◌, length, Some, None, Ok, Err, Option, Result, sym, refl, ap, ◌∙◌, ⊎_elim, arith, eq-eqb, ne_eqb}
use Rattle.std.proofs.lemmas.List.{append-nil, append_assoc}
use Rattle.std.proofs.lemmas.Bool.{cond-true, cond-false, cases_lt, cases_eq}
use Rattle.calculus.specs.Places.{if_some}
use Rattle.calculus.specs.declared.code.MethodEntry.{MethodEntry}
use Rattle.store.specs.declared.closures.OldMethod.{OldMethod}
use Rattle.store.specs.Meaning.{Meaning, Trial, no_trial, closed, opened, overrun, old_at, noted}
use Rattle.store_laws.specs.declared.runs.StoreCall.{StoreCall}
use Rattle.store_laws.specs.declared.runs.StoreCall.TheVariants.{ObjectCount, ObjectLimit, MethodLimit, Size, MethodAt, Find, Make, Clone, Update}
use Rattle.store_laws.specs.Runs.{meaning_after, meaning_after_all}
use Rattle.trial_layer.specs.declared.faults.TrialFault.{TrialFault}
use Rattle.trial_layer.specs.declared.faults.TrialFault.TheVariants.{WrongToken, NoNumber, Overrun}
use Rattle.trial_layer.specs.declared.token.Token.{Token}
use Rattle.trial_layer.specs.Laws.{AllPlaced, Back}
use Rattle.trial_layer.specs.Runs.{new_objects, made_in, updates_by, updates_in}
use Rattle.trial_layer.specs.Tokens.{token}
use Rattle.trial_layer.specs.Trials.{trial_opened, open_result, opening, undo, notes_of, back_fault, back_result, put_back, undone}
use Rattle.trial_layer.proofs.Booking.{booked}

-- an update notes nothing in a book that takes no more notes
unnoted : (t : Trial) → ((old : OldMethod) → noted old t ≡ t) → (x : Option OldMethod) → if_some x (λ old. noted old t) t ≡ t
unnoted t h None = refl
unnoted t h (Some old) = h old

pub unaltered : (table : List MethodEntry) (m : Meaning) (c : StoreCall) → ((old : OldMethod) → noted old m.trial ≡ m.trial) → (meaning_after table m c).trial ≡ m.trial
unaltered table m ObjectCount h = refl
unaltered table m ObjectLimit h = refl
unaltered table m MethodLimit h = refl
unaltered table m (Size l) h = refl
unaltered table m (MethodAt l p) h = refl
unaltered table m (Find l x) h = refl
unaltered table m (Make f n env) h = refl
unaltered table m (Clone l) h = refl
unaltered table m (Update l p c) h = unnoted m.trial h (old_at m.objects l p)

stays_overrun : (table : List MethodEntry) (m : Meaning) (n : ℕ) (cs : List StoreCall) → m.trial ≡ overrun n → (meaning_after_all table m cs).trial ≡ overrun n
stays_overrun table m n [] h = h
stays_overrun table m n (c ∷ cs) h = stays_overrun table (meaning_after table m c) n cs (unaltered table m c (λ old. ap (noted old) h ∙ sym h) ∙ h)

-- a run of a store's calls in an open trial with these notes
pub record Ran (table : List MethodEntry) (m : Meaning) (n : ℕ) (notes : List OldMethod) (cs : List StoreCall) : Type 0 where
  pub notes_them : length notes + updates_in table m cs ≤ 256 → (those : List OldMethod) × ((meaning_after_all table m cs).trial ≡ opened n those) × (undo those (meaning_after_all table m cs).objects ≡ undo notes m.objects ++ made_in table m cs)
  pub overruns : 256 < length notes + updates_in table m cs → (meaning_after_all table m cs).trial ≡ overrun n

pub ran : (table : List MethodEntry) (m : Meaning) (n : ℕ) (notes : List OldMethod) (cs : List StoreCall) → m.trial ≡ opened n notes → AllPlaced m.objects notes → length notes ≤ 256 → Ran table m n notes cs
ran table m n notes [] is in_place few = record { notes_them = λ h. (notes, is, sym (append-nil (undo notes m.objects))); overruns = λ h. absurd (omega arith) }
ran table m n notes (c ∷ cs) is in_place few =
    let b = booked table m n notes is in_place few c in
    ⊎_elim
    (λ many. record { notes_them = λ h. absurd (omega arith); overruns = λ h. stays_overrun table (meaning_after table m c) n cs (b.overruns many) })
    (λ room.
    let those = (b.notes_it room).0 in
    let now = (b.notes_it room).1 in
    let rest = ran table (meaning_after table m c) n those cs now.trial_is now.places (omega (arith, now.counts)) in
    record {
      notes_them = λ h.
          let end = rest.notes_them (omega (arith, now.counts)) in
          (end.0, end.1, end.2 ∙ ap (λ os. os ++ made_in table (meaning_after table m c) cs) now.leaves ∙ append_assoc (undo notes m.objects) (new_objects table m c) (made_in table (meaning_after table m c) cs));
      overruns = λ h. rest.overruns (omega (arith, now.counts));
    })
    (cases_lt 256 (length notes + updates_by table m c))

-- an opening that was not refused
pub opens : (t : Trial) (k : ℕ) → Ok (token k) ≡ open_result t → trial_opened t ≡ opened k []
opens no_trial k h = absurd cc
opens (closed n) k h = by (ltb n 4294967295) h
  where
    by : (b : Bool) → ◌≡◌ {A = Result Token TrialFault} (Ok (token k)) (cond b (Ok (token (n + 1))) (Err NoNumber)) → cond b (opened (n + 1) []) (closed n) ≡ opened k []
    by true e = let s : token (n + 1) ≡ token k = cc in ap (λ x. opened x.number []) s
    by false e = absurd cc
opens (opened n notes) k h = absurd cc
opens (overrun n) k h = absurd cc

-- put back, by the token x, of the trial k that was opened at m, after a run of a store's calls
module _ (table : List MethodEntry) (m : Meaning) (k : ℕ) (calls : List StoreCall) (was : Ok (token k) ≡ open_result m.trial) (e : Meaning) (is : e ≡ meaning_after_all table (opening m) calls) (x : Token) (r : Result Unit (Token × TrialFault)) (told : r ≡ back_result e.trial x) (z : Meaning) (left : z ≡ put_back e x.number) where
  whole : Ran table (opening m) k [] calls
  whole = ran table (opening m) k [] calls (opens m.trial k was) tt (omega arith)

  open_now : updates_in table (opening m) calls ≤ 256 → (those : List OldMethod) × (e.trial ≡ opened k those) × (undo those e.objects ≡ m.objects ++ made_in table (opening m) calls)
  open_now few =
      let end = whole.notes_them (omega arith) in
      (end.0, ap (λ n. n.trial) is ∙ end.1, ap (λ n. undo end.0 n.objects) is ∙ end.2)

  overrun_now : 256 < updates_in table (opening m) calls → e.trial ≡ overrun k
  overrun_now many = ap (λ n. n.trial) is ∙ whole.overruns (omega arith)

  answers : (f : Option TrialFault) → back_fault e.trial x.number ≡ f → r ≡ if_some f (λ fault. Err (x, fault)) (Ok tt)
  answers f h = told ∙ ap (λ y. if_some y (λ fault. Err (x, fault)) (Ok tt)) h

  refused : {A : Type 0} (fault : TrialFault) → r ≡ Err (x, fault) → r ≡ Ok tt → A
  refused fault h g = absurd cc

  others : (x.number ≡ k → ⊥) → Back table m k calls x r z
  others ne =
      let apart = ne_eqb k x.number (λ q. ne (sym q)) in
      let w : r ≡ Err (x, WrongToken) =
      answers (Some WrongToken)
      (⊎_elim
      (λ many. ap (λ t. back_fault t x.number) (overrun_now many) ∙ cond-false _ _ _ apart)
      (λ few. ap (λ t. back_fault t x.number) (open_now few).1 ∙ cond-false _ _ _ apart)
      (cases_lt 256 (updates_in table (opening m) calls))) in
      record { wrong = λ h. w; too_many = λ h. absurd (ne h); accepted = λ h. absurd (ne h); restored = refused WrongToken w }

  its_own : x.number ≡ k → Back table m k calls x r z
  its_own eq =
      let same = eq-eqb k x.number (sym eq) in
      ⊎_elim
      (λ many.
      let w : r ≡ Err (x, Overrun) = answers (Some Overrun) (ap (λ t. back_fault t x.number) (overrun_now many) ∙ cond-true _ _ _ same) in
      record { wrong = λ h. absurd (h eq); too_many = λ h g. w; accepted = λ h g. absurd (omega arith); restored = refused Overrun w })
      (λ few.
      let now = open_now few in
      let none : back_fault e.trial x.number ≡ None = ap (λ t. back_fault t x.number) now.1 ∙ cond-true _ _ _ same in
      record {
        wrong = λ h. absurd (h eq);
        too_many = λ h g. absurd (omega arith);
        accepted = λ h g. answers None none;
        restored = λ h. ap (λ n. n.objects) (left ∙ ap (λ f. if_some f (λ fault. e) (undone e x.number)) none) ∙ ap (λ t. undo (notes_of t) e.objects) now.1 ∙ now.2;
      })
      (cases_lt 256 (updates_in table (opening m) calls))

  pub back : Back table m k calls x r z
  back = ⊎_elim its_own others (cases_eq x.number k)
