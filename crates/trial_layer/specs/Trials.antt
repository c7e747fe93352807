-- What a layer's trial is by its book, and what open, keep and put back answer and leave.
use Rattle.std.specs.Prelude.{ℕ, ◌+◌, Bool, false, cond, List, [], ◌∷◌, take, Some, None, Ok, Err, Option, Result, ◌==◌, nat_lt}
use Rattle.calculus.specs.Places.{if_some}
use Rattle.store.specs.declared.closures.OldMethod.{OldMethod}
use Rattle.store.specs.Meaning.{Meaning, Object, Trial, no_trial, closed, opened, overrun, with_objects, put_closure}
use Rattle.trial_layer.specs.declared.book.Book.{Book}
use Rattle.trial_layer.specs.declared.faults.TrialFault.{TrialFault}
use Rattle.trial_layer.specs.declared.faults.TrialFault.TheVariants.{Open, NoNumber, WrongToken, Overrun}
use Rattle.trial_layer.specs.declared.state.TrialState.{TrialState}
use Rattle.trial_layer.specs.declared.state.TrialState.TheVariants.{Closed}
use Rattle.trial_layer.specs.declared.token.Token.{Token}
use Rattle.trial_layer.specs.Tokens.{token}

-- the old methods in the book, oldest first
abbrev pub written : Book → List OldMethod
written b = take b.count b.notes.rows

abbrev pub trial_by : TrialState → ℕ → List OldMethod → Trial
trial_by Closed n notes = closed n
trial_by TrialState.Open n notes = opened n notes
trial_by TrialState.Overrun n notes = overrun n

abbrev pub trial_of : Book → Trial
trial_of b = trial_by b.state b.last (written b)

abbrev pub with_trial : Meaning → Trial → Meaning
with_trial m t = record { objects = m.objects; object_limit = m.object_limit; method_limit = m.method_limit; trial = t }

-- the last number of a trial
abbrev pub last_number : ℕ
last_number = 4294967295

-- Open: a new trial, one number on, with an empty book. (No layer is without a trial part.)
abbrev pub open_result : Trial → Result Token TrialFault
open_result no_trial = Err NoNumber
open_result (closed n) = cond (nat_lt n last_number) (Ok (token (n + 1))) (Err NoNumber)
open_result (opened n notes) = Err Open
open_result (overrun n) = Err Open

abbrev pub trial_opened : Trial → Trial
trial_opened no_trial = no_trial
trial_opened (closed n) = cond (nat_lt n last_number) (opened (n + 1) []) (closed n)
trial_opened (opened n notes) = opened n notes
trial_opened (overrun n) = overrun n

abbrev pub opening : Meaning → Meaning
opening m = with_trial m (trial_opened m.trial)

-- an open trial has the number k
abbrev pub is_open : Trial → ℕ → Bool
is_open no_trial k = false
is_open (closed n) k = false
is_open (opened n notes) k = n == k
is_open (overrun n) k = n == k

-- Keep: the trial ends, and the objects stay.
abbrev pub keep_result : Trial → ℕ → Result Unit TrialFault
keep_result t k = cond (is_open t k) (Ok tt) (Err WrongToken)

abbrev pub kept : Meaning → ℕ → Meaning
kept m k = cond (is_open m.trial k) (with_trial m (closed k)) m

-- an old method where it was
abbrev pub restore : OldMethod → List Object → List Object
restore old os = put_closure os old.location old.place old.closure

-- the notes, oldest first, are undone newest first
abbrev pub undo : List OldMethod → List Object → List Object
undo [] os = os
undo (old ∷ notes) os = restore old (undo notes os)

-- what is meant once these notes are undone
abbrev pub undone_by : List OldMethod → Meaning → Meaning
undone_by notes m = with_objects m (undo notes m.objects)

abbrev pub notes_of : Trial → List OldMethod
notes_of no_trial = []
notes_of (closed n) = []
notes_of (opened n notes) = notes
notes_of (overrun n) = []

-- why the trial with the number k cannot be put back
abbrev pub back_fault : Trial → ℕ → Option TrialFault
back_fault no_trial k = Some WrongToken
back_fault (closed n) k = Some WrongToken
back_fault (opened n notes) k = cond (n == k) None (Some WrongToken)
back_fault (overrun n) k = cond (n == k) (Some Overrun) (Some WrongToken)

-- Put back: the trial ends, and its updates are undone; refused, it hands the token back.
abbrev pub back_result : Trial → Token → Result Unit (Token × TrialFault)
back_result t x = if_some (back_fault t x.number) (λ fault. Err (x, fault)) (Ok tt)

abbrev pub undone : Meaning → ℕ → Meaning
undone m k = with_trial (undone_by (notes_of m.trial) m) (closed k)

abbrev pub put_back : Meaning → ℕ → Meaning
put_back m k = if_some (back_fault m.trial k) (λ fault. m) (undone m k)
