-- A request to forget what lies before a time, and what becomes of it.
use Rattle.std.specs.Prelude.{◌≡◌, ℕ, false, List, ◌++◌, Option, None, Some}
use Rattle.tt_requests.specs.Lines.{is_too_long, is_passed_over}
use Rattle.tt_requests.specs.LineValue.{value_of_line}
use Rattle.tt_requests.specs.declared.asked.ForgetRequest.{ForgetRequest}
use Rattle.tt_session.specs.declared.ready_to_forget.ReadyToForget.{ReadyToForget}
use Rattle.tt_session.specs.declared.session.Session.{Session}
use Rattle.tt_session.specs.declared.session.Session.TheVariants as sessions
use Rattle.tt_commands.specs.Session.{OpenSession, Forgetting, request_in}
use Rattle.tt_commands.specs.Changes.{forgotten_by}
use Rattle.tt_commands.specs.Forgetting.{forgets_nothing}
use Rattle.tt_session.specs.Run.{Turn, turn_by_outcome, turn_with_memory}
use Rattle.tt_session.specs.Logged.{logged_by, IsPlain, with_lines}
use Rattle.tt_session.specs.Together.{kept_line}
use Rattle.tt_commands.specs.ForgetRequests.{outcome_of_forget}
use Rattle.tt_requests.specs.Asked.{IsForgetRequest}

-- what is printed for it, and the session after it
abbrev pub turn_of_forget : OpenSession → ForgetRequest → Turn
turn_of_forget session f = turn_by_outcome session (outcome_of_forget session f)

-- a turn answers a request to forget by this text, and the session stays as it is; or it goes on with this forgetting
abbrev pub TurnsForget : OpenSession → Turn → List ℕ → Option Forgetting → Type 0
TurnsForget session turn text None = turn ≡ record { text = text; session = sessions.Open session }
TurnsForget session turn text (Some f) =
    (turn ≡ record { text = text; session = sessions.Open (forgotten_by session f) }) × (forgets_nothing session f ≡ false)

-- a call that asks to forget is answered by a further text, and nothing else changes; or a session is ready to forget
abbrev pub Prepares : OpenSession → ForgetRequest → List ℕ → List ℕ → Option ReadyToForget → Type 0
Prepares session f before after None = (text : List ℕ) × (after ≡ before ++ text) × TurnsForget session (turn_of_forget session f) text None
Prepares session f before after (Some ready) =
    (after ≡ before) × TurnsForget session (turn_of_forget session f) ready.text.items (Some ready.forgetting)

-- a line asks a session to forget what lies before a time
pub record AsksToForget (session : Session) (line : List ℕ) (f : ForgetRequest) : Type 0 where
  pub opened : OpenSession
  pub session_is : session ≡ sessions.Open opened
  pub short : is_too_long line ≡ false
  pub told : is_passed_over line ≡ false
  pub asks : IsForgetRequest (request_in opened (value_of_line line)) f

-- a line that isn't to forget is answered, and kept if it is to be logged: the log isn't made anew for it
pub record AnswersPlain (old new : Session) (line before after : List ℕ) (kept left : Option (List (List ℕ))) : Type 0 where
  pub text : after ≡ before ++ (turn_with_memory old line).text
  pub session : new ≡ (turn_with_memory old line).session
  pub lines : left ≡ with_lines kept (logged_by old new line)
  pub plain : IsPlain old (kept_line line)

-- a line that is to forget is returned, and nothing is done yet
pub record ReturnsRequest (old new : Session) (line before after : List ℕ) (kept left : Option (List (List ℕ))) (f : ForgetRequest) : Type 0 where
  pub asks : AsksToForget old line f
  pub session : new ≡ old
  pub text : after ≡ before
  pub lines : left ≡ kept

abbrev pub AnswersLine : Session → Session → List ℕ → List ℕ → List ℕ → Option (List (List ℕ)) → Option (List (List ℕ)) → Option ForgetRequest → Type 0
AnswersLine old new line before after kept left None = AnswersPlain old new line before after kept left
AnswersLine old new line before after kept left (Some f) = ReturnsRequest old new line before after kept left f
