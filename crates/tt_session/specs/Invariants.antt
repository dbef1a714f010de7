-- What holds of every session, whatever its lines are.
use Rattle.std.specs.Prelude.{ℕ, List, Result}
use Rattle.tt_grammar.specs.declared.fault.DocFault.{DocFault}
use Rattle.tt_requests.specs.declared.request.Request.{Request}
use Rattle.tt_session.specs.declared.session.Session.{Session}
use Rattle.tt_session.specs.declared.session.Session.TheVariants as sessions
use Rattle.tt_commands.specs.Session.{OpenSession}
use Rattle.tt_commands.specs.Invariants.{IsOpenSession}
use Rattle.tt_session.specs.Run.{Losses, turn_by_request, session_after}

-- a session is sound once it is open; nothing holds of it before
abbrev pub IsSession : Session → Type 0
IsSession sessions.NotOpen = Unit {0}
IsSession (sessions.Open session) = IsOpenSession session

-- whatever an open session is asked, and whatever the fault of a line, it is one afterwards
abbrev pub OpenSessionsStaySound : Type 0
OpenSessionsStaySound = (session : OpenSession) (asked : Result Request DocFault) → IsOpenSession session → IsSession (turn_by_request session asked).session

-- each session is one, after any lines and for any lines without memory
abbrev pub SessionsStaySound : Type 0
SessionsStaySound = (lines : List (List ℕ)) (losses : Losses) → IsSession (session_after lines losses)
