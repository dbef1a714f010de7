-- Each session is sound after any lines, from its opening on.
use Rattle.std.proofs.Common.{◌≡◌, ℕ, ◌+◌, ◌≤◌, Bool, true, false, cond, List, [], ◌∷◌, Result, Ok, Err, refl, arith}
use Rattle.serde_json.specs.Data.{Data}
use Rattle.tt_grammar.specs.declared.fault.DocFault.{DocFault}
use Rattle.tt_requests.specs.declared.opening.Opening.{Opening}
use Rattle.tt_requests.specs.Lines.{is_passed_over}
use Rattle.tt_requests.specs.LineValue.{value_of_line}
use Rattle.tt_requests.specs.Opening.{max_records, opening_of}
use Rattle.tt_requests.specs.SessionLine.{is_opening}
use Rattle.tt_answers.specs.declared.answer.Answer.TheVariants as answers
use Rattle.tt_answers.specs.declared.answer.Refusal.{Refusal}
use Rattle.tt_answers.specs.declared.answer.Refusal.TheVariants as refusals
use Rattle.tt_commands.specs.Answers.{Answered}
use Rattle.tt_commands.specs.Commands.{outcome_of_request}
use Rattle.tt_answers.specs.AnswerText.{opening_text}
use Rattle.tt_session.specs.declared.session.Session.{Session}
use Rattle.tt_session.specs.declared.session.Session.TheVariants as sessions
use Rattle.tt_commands.specs.Session.{OpenSession, opened, counted, request_in}
use Rattle.tt_commands.specs.Repairing.{status_of}
use Rattle.tt_session.specs.Reopening.{asks_for}
use Rattle.tt_commands.specs.Session.{with_most_records, reopened_by}
use Rattle.tt_session.specs.Run.{Turn, turn_by_opening, turn_by_outcome, turn_by_reopening, turn_by_request, turn_by_value, turn_without_memory, Losses, lacks_memory, is_lost_opening, turn_of_line, turn_of_lines}
use Rattle.tt_commands.specs.Records.{last_records}
use Rattle.tt_commands.specs.Invariants.{IsOpenSession}
use Rattle.tt_session.specs.Invariants.{IsSession, OpenSessionsStaySound, SessionsStaySound}
use Rattle.tt_session.proofs.OpeningLemmas.{IsOpening}
use Rattle.tt_session.proofs.OpeningLemmas as openings
use Rattle.tt_commands.proofs.GoingOnLemmas.{kept-sound, requests_keep_sessions_sound}

-- an open session is one, whatever it is asked
pub open_sessions_stay_sound : OpenSessionsStaySound
open_sessions_stay_sound session (Err fault) sound = sound
open_sessions_stay_sound session (Ok request) sound = by (outcome_of_request session request) (λ b is. requests_keep_sessions_sound session request b sound is)
  where
    by : (outcome : Result Answered Refusal) → ((b : Answered) → outcome ≡ Ok b → IsOpenSession b.session) → IsSession (turn_by_outcome session outcome).session
    by (Ok b) on = on b refl
    by (Err refusal) on = sound

opened-sound : (opening : Opening) → IsOpening opening → IsOpenSession (opened opening)
opened-sound opening is = record {
  catalog = is.catalog;
  fits = record { slots = omega arith; events = omega arith; edits = omega arith; keep = is.keep };
  edits = refl;
  legal = tt;
  room = refl;
  numbered = record { within = omega arith; time = omega arith; generation = omega arith };
  few_records = omega arith;
  few_kept = is.records;
  few_rows = omega arith;
}

opening-sound : (value : Result Data DocFault) → IsSession (turn_by_opening (opening_of value)).session
opening-sound value = by (opening_of value) refl
  where
    by : (reading : Result Opening DocFault) → opening_of value ≡ reading → IsSession (turn_by_opening reading).session
    by (Err fault) is = tt
    by (Ok opening) is = opened-sound opening (openings.is_opening value opening is)

reopened-sound : (session : OpenSession) (opening : Opening) → IsOpenSession session → opening.records ≤ max_records → IsOpenSession (reopened_by session opening)
reopened-sound session opening sound few = by session.has_opening
  where
    by : (had : Bool) → IsOpenSession (cond had session (record (with_most_records session opening.records) { has_opening = true }))
    by true = sound
    by false = kept-sound session.database session.numbering session.records session.records (last_records opening.records session.records) session.most_records opening.records sound few refl

reopening-sound : (session : OpenSession) (value : Result Data DocFault) → IsOpenSession session → IsSession (turn_by_reopening session (opening_of value)).session
reopening-sound session value sound = by (opening_of value) refl
  where
    chosen : (opening : Opening) → opening.records ≤ max_records → (asked : Bool) → IsSession (cond {A = Turn} asked
        (record { text = opening_text session.numbering (answers.Standing (status_of session.database)); session = sessions.Open (reopened_by session opening) })
        (record { text = opening_text session.numbering (answers.Refused refusals.AnotherOpening); session = sessions.Open session })).session
    chosen opening few true = reopened-sound session opening sound few
    chosen opening few false = sound

    by : (reading : Result Opening DocFault) → opening_of value ≡ reading → IsSession (turn_by_reopening session reading).session
    by (Err fault) is = sound
    by (Ok opening) is = chosen opening (openings.is_opening value opening is).records (asks_for opening session.database)

value-sound : (session : Session) (value : Result Data DocFault) → IsSession session → IsSession (turn_by_value session value).session
value-sound sessions.NotOpen value sound = opening-sound value
value-sound (sessions.Open session) value sound = by (is_opening value)
  where
    by : (opening : Bool) → IsSession (cond opening (turn_by_reopening session (opening_of value)) (turn_by_request (counted session) (request_in session value))).session
    by true = reopening-sound session value sound
    by false = open_sessions_stay_sound (counted session) (request_in session value) sound

memory-sound : (was_opening : Bool) (session : Session) → IsSession session → IsSession (turn_without_memory was_opening session).session
memory-sound was_opening sessions.NotOpen sound = tt
memory-sound true (sessions.Open session) sound = sound
memory-sound false (sessions.Open session) sound = sound

line-sound : (losses : Losses) (number : ℕ) (session : Session) (line : List ℕ) → IsSession session → IsSession (turn_of_line losses number session line).session
line-sound losses number session line sound = by (is_passed_over line) (lacks_memory losses number line)
  where
    by : (passed lacks : Bool)
        → IsSession (cond passed (record { text = []; session = session }) (cond lacks (turn_without_memory (is_lost_opening losses number line) session) (turn_by_value session (value_of_line line)))).session
    by true lacks = sound
    by false true = memory-sound (is_lost_opening losses number line) session sound
    by false false = value-sound session (value_of_line line) sound

lines-sound : (losses : Losses) (number : ℕ) (session : Session) (lines : List (List ℕ)) → IsSession session
    → IsSession (turn_of_lines losses number session lines).session
lines-sound losses number session [] sound = sound
lines-sound losses number session (line ∷ lines) sound =
    lines-sound losses (number + 1) (turn_of_line losses number session line).session lines (line-sound losses number session line sound)

pub sessions_stay_sound : SessionsStaySound
sessions_stay_sound lines losses = lines-sound losses 1 sessions.NotOpen lines tt
