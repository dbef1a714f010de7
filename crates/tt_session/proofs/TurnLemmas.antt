-- The turn of a line that is too long, of one that is an opening in an open session, and of one that is a call.
use Rattle.std.proofs.Common.{◌≡◌, ℕ, Bool, true, false, cond, List, Result, Ok, Err, refl, ap}
use Rattle.serde_json.specs.Data.{Data}
use Rattle.tt_grammar.specs.declared.fault.DocFault.{DocFault}
use Rattle.tt_grammar.specs.Version.{newest_version}
use Rattle.tt_requests.specs.declared.opening.Opening.{Opening}
use Rattle.tt_requests.specs.declared.request.Request.{Request}
use Rattle.tt_requests.specs.Lines.{is_too_long}
use Rattle.tt_requests.specs.LineValue.{value_of_line}
use Rattle.tt_requests.specs.Opening.{opening_of}
use Rattle.tt_requests.specs.SessionLine.{is_opening}
use Rattle.tt_requests.proofs.LineLemmas.{value_of_line-long}
use Rattle.tt_requests.proofs.SessionLineLemmas.{requests_are_no_openings}
use Rattle.tt_answers.specs.declared.answer.Answer.TheVariants as answers
use Rattle.tt_answers.specs.declared.answer.Refusal.TheVariants as refusals
use Rattle.tt_answers.specs.AnswerText.{opening_text}
use Rattle.tt_session.specs.declared.session.Session.{Session}
use Rattle.tt_session.specs.declared.session.Session.TheVariants as sessions
use Rattle.tt_commands.specs.Repairing.{status_of}
use Rattle.tt_session.specs.Reopening.{asks_for}
use Rattle.tt_commands.specs.Session.{with_most_records, reopened_by}
use Rattle.tt_session.specs.Run.{Turn, turn_by_reopening, turn_by_request, turn_by_value, turn_of_long_line}
use Rattle.tt_commands.specs.Session.{OpenSession, counted, request_in}

pub turn-long : (session : Session) (line : List ℕ) → is_too_long line ≡ true → turn_by_value session (value_of_line line) ≡ turn_of_long_line session
turn-long sessions.NotOpen line long = ap (turn_by_value sessions.NotOpen) (value_of_line-long line long)
turn-long (sessions.Open session) line long = ap (turn_by_value (sessions.Open session)) (value_of_line-long line long)

-- ---- a line of an open session

pub turn-opening : (session : OpenSession) (value : Result Data DocFault) → is_opening value ≡ true → turn_by_value (sessions.Open session) value ≡ turn_by_reopening session (opening_of value)
turn-opening session value is = rw is refl

pub turn-request : (session : OpenSession) (value : Result Data DocFault) → is_opening value ≡ false → turn_by_value (sessions.Open session) value ≡ turn_by_request (counted session) (request_in session value)
turn-request session value is = rw is refl

-- what is asked without a fault is no opening
pub asked-request : (session : OpenSession) (value : Result Data DocFault) (request : Request) → request_in session value ≡ Ok request → is_opening value ≡ false
asked-request session value request asks = requests_are_no_openings newest_version session.database.catalog value request asks

-- ---- an opening in an open session

-- the session after it is open, and has the same database, numbers, stamps and calls
pub record Reopened (session : OpenSession) (turn : Turn) : Type 0 where
  pub next : OpenSession
  pub is : turn.session ≡ sessions.Open next
  pub database : next.database ≡ session.database
  pub numbering : next.numbering ≡ session.numbering
  pub stamps : next.stamps ≡ session.stamps
  pub calls : next.calls ≡ session.calls

stays : (session : OpenSession) (text : List ℕ) → Reopened session (record { text = text; session = sessions.Open session })
stays session text = record { next = session; is = refl; database = refl; numbering = refl; stamps = refl; calls = refl }

taken : (session : OpenSession) (opening : Opening) (text : List ℕ) → Reopened session (record { text = text; session = sessions.Open (reopened_by session opening) })
taken session opening text = by session.has_opening
  where
    by : (had : Bool) → Reopened session (record { text = text; session = sessions.Open (cond had session (record (with_most_records session opening.records) { has_opening = true })) })
    by true = stays session text
    by false = record { next = record (with_most_records session opening.records) { has_opening = true }; is = refl; database = refl; numbering = refl; stamps = refl; calls = refl }

pub reopening-next : (session : OpenSession) (asked : Result Opening DocFault) → Reopened session (turn_by_reopening session asked)
reopening-next session (Err fault) = stays session (opening_text session.numbering (answers.Faulty fault))
reopening-next session (Ok opening) = by (asks_for opening session.database)
  where
    by : (asks : Bool) → Reopened session (cond asks
        (record { text = opening_text session.numbering (answers.Standing (status_of session.database)); session = sessions.Open (reopened_by session opening) })
        (record { text = opening_text session.numbering (answers.Refused refusals.AnotherOpening); session = sessions.Open session }))
    by true = taken session opening (opening_text session.numbering (answers.Standing (status_of session.database)))
    by false = stays session (opening_text session.numbering (answers.Refused refusals.AnotherOpening))
