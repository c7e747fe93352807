-- A session of the code as what it holds, and one call as a step of the main theorem.
use Rattle.std.specs.Prelude.{◌≡◌, true}
use Rattle.calculus.specs.Text.{rooms, within}
use Rattle.store.specs.Meaning.{Meaning}
use Rattle.machine.specs.Machine.{state_of}
use Rattle.reference.specs.Calls.{Call, AnswerOf, Valid}
use Rattle.reference.specs.States.{Reference}
use Rattle.session_laws.specs.Sessions.{answer, Leaves}
use Rattle.session_laws.specs.Sessions as laws
use Rattle.session_laws.specs.Areas.{session_over}
use Rattle.session_laws.specs.Agreement.{Agrees}
use Rattle.session_laws.specs.Main.{Answered}
use Rattle.session.specs.declared.session.Session.{Session}

module _ {S : Type 0} (meaning : S → Meaning) where
  -- the used parts of its code area and the room there, its machine, and what its store means
  abbrev pub held_by : Session S → laws.Session
  held_by s = session_over s.area.tables s.area.counts (state_of s.machine) (meaning s.store)

  -- no count is past its table: so it is at the beginning, and every call keeps it so
  abbrev pub Whole : Session S → Type 0
  Whole s = within s.area.counts (rooms s.area.tables) ≡ true

  -- One call, from a whole session: its answer is the definition's, it leaves what the definition says, whole again; and for every state of the
  -- reference that the session agrees with, the call is answered as the reference answers it, and leaves a session that agrees again.
  pub record Step (c : Call) (before : Session S) (a : AnswerOf c) (after : Session S) : Type 0 where
    pub answers : a ≡ answer (held_by before) c
    pub leaves : Leaves (held_by before) c (held_by after)
    pub whole : Whole after
    pub agrees : (R : Reference) → Valid c → Agrees (held_by before) R → Answered (held_by before) R c (held_by after)
