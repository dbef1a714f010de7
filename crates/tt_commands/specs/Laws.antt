-- What holds of the answers of a session.
use Rattle.std.specs.Prelude.{◌≡◌, ℕ, Bool, true, false, Result, Ok, Err}
use Rattle.serde_json.specs.Data.{Data}
use Rattle.tt_generations.specs.TwoGenerations.{is_repairing, done_of}
use Rattle.tt_db.specs.declared.event.Event.TheVariants as events
use Rattle.tt_db.specs.declared.errors.DbError.{DbError}
use Rattle.tt_db.specs.declared.errors.DbError.TheVariants as errors
use Rattle.tt_db.specs.Database.{now_in}
use Rattle.tt_grammar.specs.declared.fault.DocFault.{DocFault}
use Rattle.tt_requests.specs.declared.request.ChangePage.{ChangePage}
use Rattle.tt_requests.specs.declared.request.Request.{Request}
use Rattle.tt_answers.specs.declared.answer.Refusal.TheVariants as refusals
use Rattle.tt_commands.specs.declared.change_entries.Moment.TheVariants.{Now, Next}
use Rattle.tt_commands.specs.Session.{OpenSession, request_in, state_in, with_database}
use Rattle.tt_commands.specs.Repairing.{with_event}
use Rattle.tt_commands.specs.Commands.{outcome_of_request}
use Rattle.tt_commands.specs.Moments.{changes_answer_at}
use Rattle.tt_commands.specs.Invariants.{IsOpenSession}

-- whether a line can be answered with an error of the database. A statement with a fault and too many edits are faults of the line; `step` does no
-- more slots than are left, and `finish` does all that are left
abbrev pub answers_lines : DbError → Bool
answers_lines (errors.Statement fault) = false
answers_lines errors.NothingLeft = false
answers_lines (errors.NotCaughtUp left) = false
answers_lines errors.TooManyEdits = false
answers_lines error = true

-- a request that was read from a line is refused with no other error of the database
abbrev pub OtherErrorsAnswerNoLine : Type 0
OtherErrorsAnswerNoLine = (session : OpenSession) (value : Result Data DocFault) (request : Request) (error : DbError) → IsOpenSession session →
    request_in session value ≡ Ok request → outcome_of_request session request ≡ Err (refusals.Event error) → answers_lines error ≡ true

-- the session after the switch
abbrev pub switched : OpenSession → ℕ → OpenSession
switched session worker = with_database session (with_event session.database worker events.Switch)

-- once a repair has done as many slots as there are, the next changes are the changes right after the switch, whatever page is asked for
abbrev pub NextChangesEndAsChanges : Type 0
NextChangesEndAsChanges = (session : OpenSession) (worker : ℕ) (page : ChangePage) →
    is_repairing (state_in session).phase ≡ true → done_of (state_in session).phase ≡ now_in session.database →
    (changes_answer_at Next session page).answer ≡ (changes_answer_at Now (switched session worker) page).answer
