-- The agreement of a session with the reference, call after call.
use Rattle.std.proofs.Common.{Bool, true, false, List, [], ◌∷◌, ◌++◌, refl, arith}
use Rattle.calculus.specs.Text.{Text}
use Rattle.machine_model.specs.declared.state.Cell.{Cell}
use Rattle.reference.specs.Configurations.{Limits}
use Rattle.reference.specs.States.{Reference, no_reference}
use Rattle.reference.specs.States as states
use Rattle.reference.specs.Calls.{Call, compile, start, run, open_trial, keep, put_back, Valid}
use Rattle.session_laws.specs.Sessions.{Session, Leaves, no_trial_yet, new_session}
use Rattle.session_laws.specs.Agreement.{TrialStands, Agrees}
use Rattle.session_laws.specs.Main.{CallsAgree, Performs, no_more, next_call, Follows, SessionsAgree}
use Rattle.session_laws.proofs.CompileCall.{done_compile}
use Rattle.session_laws.proofs.StartCall.{done_start}
use Rattle.session_laws.proofs.RunCall.{done_run}
use Rattle.session_laws.proofs.TrialCalls.{done_open, done_keep, done_put}

pub calls_agree : CallsAgree
calls_agree s R (compile rows g) s' a v l = done_compile s R a rows g s' l
calls_agree s R (start p vs n) s' a v l = done_start s R a p vs n v s' l
calls_agree s R (run n) s' a v l = done_run s R a n s' l
calls_agree s R open_trial s' a v l = done_open s R a s' l
calls_agree s R (keep k) s' a v l = done_keep s R a k s' l
calls_agree s R (put_back k) s' a v l = done_put s R a k s' l

-- call after call, from the beginning

pub follows_all : {s s'' : Session} {cs : List Call} (p : Performs s cs s'') (R : Reference) → Agrees s R → Follows p R
follows_all no_more R a = a
follows_all (next_call {s} {c = c} s' v l p) R a = let d = calls_agree s R c s' a v l in (a, d.next, d.says, d.counts, follows_all p d.next d.agrees)

trial_begins : (b : Bool) (T : Text) (cells : List Cell) → TrialStands T cells [] [] (no_trial_yet b) (states.no_trial_yet b)
trial_begins true T cells = refl
trial_begins false T cells = tt

pub agrees_new : (b : Bool) (Λ : Limits) → Agrees (new_session b Λ) (no_reference b Λ)
agrees_new b Λ =
    record {
      store = [];
      trial = states.no_trial_yet b;
      framed = _;
      now_is = refl;
      store_stands = tt;
      trial_stands = trial_begins b _ _;
      well_formed = tt;
      terms_known = λ n. refl;
      used_is = refl;
      room_is = refl;
      cell_room_is = refl;
      frame_room_is = refl;
      object_limit_is = refl;
      method_limit_is = refl;
      kept = record { cells_kept = omega arith; objects_kept = omega arith; methods_kept = omega arith; allowance_kept = omega arith };
      progress_is = refl;
      program = tt;
    }

pub sessions_agree : SessionsAgree
sessions_agree b Λ cs s p = follows_all p (no_reference b Λ) (agrees_new b Λ)

-- one call more, and where the reference is at the end
pub performs_more : {s s' : Session} {cs : List Call} → Performs s cs s' → (c : Call) (s'' : Session) → Valid c → Leaves s' c s'' → Performs s (cs ++ (c ∷ [])) s''
performs_more no_more c s'' v l = next_call s'' v l no_more
performs_more (next_call s₁ w k p) c s'' v l = next_call s₁ w k (performs_more p c s'' v l)

pub follows_to : {s s'' : Session} {cs : List Call} (p : Performs s cs s'') (R : Reference) → Follows p R → (R' : Reference) × Agrees s'' R'
follows_to no_more R a = (R, a)
follows_to (next_call s' v l p) R h = follows_to p h.1 h.4
