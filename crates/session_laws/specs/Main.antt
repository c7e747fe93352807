-- The main theorem: whatever calls a session gets, it agrees with the reference.
use Rattle.std.specs.Prelude.{Bool, List, [], ◌∷◌}
use Rattle.reference.specs.Configurations.{Limits}
use Rattle.reference.specs.States.{Reference, no_reference}
use Rattle.reference.specs.Calls.{Call, compile, start, run, open_trial, keep, put_back, RefCall, Valid}
use Rattle.session_laws.specs.Sessions.{Session, answer, Leaves, new_session}
use Rattle.session_laws.specs.Agreement.{Agrees, TransitsIf}

-- the transitions of a run
abbrev pub Counts : Session → Call → Session → Type 0
Counts s (compile rows g) s' = Unit {0}
Counts s (start p vs a) s' = Unit {0}
Counts s (run n) s' = TransitsIf s.state.registers.progress s (answer s (run n)) s'
Counts s open_trial s' = Unit {0}
Counts s (keep k) s' = Unit {0}
Counts s (put_back k) s' = Unit {0}

-- one call: the reference, fed the call and its answer, goes on to a state that the session agrees with again
pub record Answered (s : Session) (R : Reference) (c : Call) (s' : Session) : Type 0 where
  pub next : Reference
  pub says : RefCall c R (answer s c) next
  pub counts : Counts s c s'
  pub agrees : Agrees s' next

abbrev pub CallsAgree : Type 0
CallsAgree = (s : Session) (R : Reference) (c : Call) (s' : Session) → Agrees s R → Valid c → Leaves s c s' → Answered s R c s'

-- a session performs calls, one after another, up to another session
pub data Performs : Session → List Call → Session → Type 0 where
  no_more : {s : Session} → Performs s [] s
  next_call : {s s'' : Session} {c : Call} {cs : List Call} (s' : Session) → Valid c → Leaves s c s' → Performs s' cs s'' → Performs s (c ∷ cs) s''

-- there are states of the reference, one after each call, with which the session agrees
abbrev pub Follows : {s s'' : Session} {cs : List Call} → Performs s cs s'' → Reference → Type 0
Follows {s} no_more R = Agrees s R
Follows {s} (next_call {c = c} s' v l p) R = Agrees s R × (R' : Reference) × RefCall c R (answer s c) R' × Counts s c s' × Follows p R'

-- for every list of calls that a new session performs
abbrev pub SessionsAgree : Type 0
SessionsAgree = (b : Bool) (Λ : Limits) (cs : List Call) (s : Session) (p : Performs (new_session b Λ) cs s) → Follows p (no_reference b Λ)
