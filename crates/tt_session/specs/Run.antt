-- A whole session: its lines are answered one after another, each by the session that the lines before it left.
use Rattle.std.specs.Prelude.{ℕ, ◌+◌, ◌==◌, ◌&&◌, not, Bool, true, false, List, [], ◌∷◌, ◌++◌, Option, None, Some, Result, Ok, Err, if◌then◌else◌}
use Rattle.std.specs.List.{list_any}
use Rattle.serde_json.specs.Data.{Data}
use Rattle.tt_grammar.specs.declared.fault.DocFault.{DocFault}
use Rattle.tt_requests.specs.declared.opening.Opening.{Opening}
use Rattle.tt_requests.specs.declared.request.Request.{Request}
use Rattle.tt_requests.specs.Lines.{is_too_long, is_passed_over}
use Rattle.tt_requests.specs.LineValue.{value_of_line}
use Rattle.tt_requests.specs.Opening.{opening_of}
use Rattle.tt_requests.specs.SessionLine.{is_opening}
use Rattle.tt_session.specs.declared.session.Session.{Session}
use Rattle.tt_session.specs.declared.session.Session.TheVariants as sessions
use Rattle.tt_commands.specs.Session.{OpenSession, opened, request_in, counted}
use Rattle.tt_requests.specs.Numbers.{nothing_forgotten}
use Rattle.tt_answers.specs.declared.answer.Refusal.{Refusal}
use Rattle.tt_answers.specs.declared.answer.Refusal.TheVariants as refusals
use Rattle.tt_answers.specs.declared.answer.Answer.{Answer}
use Rattle.tt_answers.specs.declared.answer.Answer.TheVariants as answers
use Rattle.tt_commands.specs.Answers.{Answered}
use Rattle.tt_commands.specs.Repairing.{status_of}
use Rattle.tt_commands.specs.Commands.{outcome_of_request}
use Rattle.tt_session.specs.Reopening.{asks_for}
use Rattle.tt_commands.specs.Session.{reopened_by}
use Rattle.tt_answers.specs.RefusalText.{too_long}
use Rattle.tt_answers.specs.AnswerText.{opening_text, call_text}

-- what is printed for a line, and the session after it
pub record Turn : Type 0 where
  pub text : List ℕ
  pub session : Session

-- the session that an opening has opened, if there is one
abbrev pub begun : Option OpenSession → Session
begun None = sessions.NotOpen
begun (Some session) = sessions.Open session

-- an opening begins a session; after a fault the session is still not open
abbrev pub turn_by_opening : Result Opening DocFault → Turn
turn_by_opening (Err fault) = record { text = opening_text nothing_forgotten (answers.Faulty fault); session = sessions.NotOpen }
turn_by_opening (Ok opening) =
    let session = opened opening in
    record { text = opening_text session.numbering (answers.Standing (status_of session.database)); session = sessions.Open session }

-- an opening in an open session gets no answer of a call: the status is told if it asks for what the session has; else it is refused
abbrev pub turn_by_reopening : OpenSession → Result Opening DocFault → Turn
turn_by_reopening session (Err fault) = record { text = opening_text session.numbering (answers.Faulty fault); session = sessions.Open session }
turn_by_reopening session (Ok opening) =
    if asks_for opening session.database
    then record { text = opening_text session.numbering (answers.Standing (status_of session.database)); session = sessions.Open (reopened_by session opening) }
    else record { text = opening_text session.numbering (answers.Refused refusals.AnotherOpening); session = sessions.Open session }

-- the last call is answered
abbrev pub turn_of_answer : OpenSession → Answer → Turn
turn_of_answer session answer = record { text = call_text session.database.catalog session.numbering session.calls answer; session = sessions.Open session }

-- what has become of a request is told; a refused one leaves the session as it was
abbrev pub turn_by_outcome : OpenSession → Result Answered Refusal → Turn
turn_by_outcome session (Err refusal) = turn_of_answer session (answers.Refused refusal)
turn_by_outcome session (Ok answered) = turn_of_answer answered.session answered.answer

-- a request is carried out or refused; a fault leaves the session as it was
abbrev pub turn_by_request : OpenSession → Result Request DocFault → Turn
turn_by_request session (Err fault) = turn_of_answer session (answers.Faulty fault)
turn_by_request session (Ok request) = turn_by_outcome session (outcome_of_request session request)

-- the JSON value of a line, or its fault, is an opening before the session is open; and then an opening if it has a version, and else a call
abbrev pub turn_by_value : Session → Result Data DocFault → Turn
turn_by_value sessions.NotOpen value = turn_by_opening (opening_of value)
turn_by_value (sessions.Open session) value =
    if is_opening value then turn_by_reopening session (opening_of value) else turn_by_request (counted session) (request_in session value)

-- a line for which there was no memory is an opening or a call all the same; in an open session it is an opening if it was read as one
abbrev pub turn_without_memory : Bool → Session → Turn
turn_without_memory was_opening sessions.NotOpen = record { text = opening_text nothing_forgotten answers.OutOfMemory; session = sessions.NotOpen }
turn_without_memory true (sessions.Open session) = record { text = opening_text nothing_forgotten answers.OutOfMemory; session = sessions.Open session }
turn_without_memory false (sessions.Open session) = turn_of_answer (counted session) answers.OutOfMemory

-- a line that is longer than lines may be is an opening or a call all the same
abbrev pub turn_of_long_line : Session → Turn
turn_of_long_line sessions.NotOpen = record { text = opening_text nothing_forgotten (answers.Faulty too_long); session = sessions.NotOpen }
turn_of_long_line (sessions.Open session) = turn_of_answer (counted session) (answers.Faulty too_long)

-- a line is passed over or answered, where there is memory for it
abbrev pub turn_with_memory : Session → List ℕ → Turn
turn_with_memory session line =
    if is_passed_over line then record { text = []; session = session } else turn_by_value session (value_of_line line)

-- how many calls there were
abbrev pub calls_of : Session → ℕ
calls_of sessions.NotOpen = 0
calls_of (sessions.Open session) = session.calls

-- the numbers, from 1, of the lines for which there was no memory, and of those among them that had been read as openings by then
pub record Losses : Type 0 where
  pub lines : List ℕ
  pub openings : List ℕ

-- whether a number is one of these
abbrev pub is_numbered : List ℕ → ℕ → Bool
is_numbered numbers number = list_any (λ n. n == number) numbers

-- whether the line of this number is one of those for which there was no memory. A line that is too long needs none
abbrev pub lacks_memory : Losses → ℕ → List ℕ → Bool
lacks_memory losses number line = not (is_too_long line) && is_numbered losses.lines number

-- whether the line of this number is an opening that was lost as one
abbrev pub is_lost_opening : Losses → ℕ → List ℕ → Bool
is_lost_opening losses number line = is_numbered losses.openings number && is_opening (value_of_line line)

-- a line of this number, counted from 1, is passed over or answered
abbrev pub turn_of_line : Losses → ℕ → Session → List ℕ → Turn
turn_of_line losses number session line =
    if is_passed_over line then record { text = []; session = session } else (
    if lacks_memory losses number line then turn_without_memory (is_lost_opening losses number line) session else
    turn_by_value session (value_of_line line))

-- lines, the first of which has this number, are answered one after another
abbrev pub turn_of_lines : Losses → ℕ → Session → List (List ℕ) → Turn
turn_of_lines losses number session [] = record { text = []; session = session }
turn_of_lines losses number session (line ∷ lines) =
    let turn = turn_of_line losses number session line in
    let others = turn_of_lines losses (number + 1) turn.session lines in
    record { text = turn.text ++ others.text; session = others.session }

-- what a session prints for its lines, where there was no memory for some of them
abbrev pub session_text : List (List ℕ) → Losses → List ℕ
session_text lines losses = (turn_of_lines losses 1 sessions.NotOpen lines).text

-- the session after them
abbrev pub session_after : List (List ℕ) → Losses → Session
session_after lines losses = (turn_of_lines losses 1 sessions.NotOpen lines).session
