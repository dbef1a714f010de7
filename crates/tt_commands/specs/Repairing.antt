-- How a repair goes on in a session: its beginning, its steps, and its two ends.
use Rattle.std.specs.Prelude.{ℕ, ◌+◌, ◌==◌, min, List, ◌++◌, replicate, Option, None, Some, Result, Ok, Err, if◌then◌else◌}
use Rattle.tt_repair_laws.specs.declared.edit.Edit.{Edit}
use Rattle.tt_generations.specs.declared.progress.Progress.{Progress}
use Rattle.tt_generations.specs.TwoGenerations.{done_of, reexecuted_of}
use Rattle.tt_db.specs.declared.event.Event.{Event}
use Rattle.tt_db.specs.declared.event.Event.TheVariants as events
use Rattle.tt_db.specs.declared.event.Entry.{Entry}
use Rattle.tt_db.specs.declared.errors.DbError.{DbError}
use Rattle.tt_db.specs.State.{now_of, oldest_of, slots_left, unless_repairing}
use Rattle.tt_db.specs.Database.{Database, state_of, with_entry, repair_of, repair_worker_of}
use Rattle.tt_commands.specs.Session.{OpenSession, state_in, with_database}
use Rattle.tt_answers.specs.declared.answer.Refusal.{Refusal}
use Rattle.tt_answers.specs.declared.answer.Refusal.TheVariants as refusals
use Rattle.tt_answers.specs.declared.answer.RepairStatus.{RepairStatus}
use Rattle.tt_answers.specs.declared.answer.Status.{Status}
use Rattle.tt_answers.specs.declared.answer.Answer.TheVariants as answers
use Rattle.tt_commands.specs.Answers.{Answered}
use Rattle.tt_commands.specs.Room.{refusal_in_session}

-- an entry of the history, by the worker of this number
abbrev pub entry_by : ℕ → Event → Entry
entry_by worker event = record { worker = worker; event = event }

-- the database with one more entry
abbrev pub with_event : Database → ℕ → Event → Database
with_event db worker event = with_entry db (entry_by worker event)

-- the database with this many steps of the repair
abbrev pub with_steps : Database → ℕ → ℕ → Database
with_steps db worker count = record db { history = db.history ++ replicate count (entry_by worker events.Step) }

-- how far the repair of a database is
abbrev pub progress_now : Database → Progress
progress_now db =
    let S = state_of db in
    record { done = done_of S.phase; left = slots_left S; rerun = reexecuted_of db.catalog S.phase S.slots }

-- how a repair under way stands, by how far it is and the worker that began it
abbrev pub repair_status : Option Progress → Option ℕ → Option RepairStatus
repair_status (Some progress) (Some worker) = Some (record { progress = progress; worker = worker })
repair_status progress worker = None

-- how a database stands
abbrev pub status_of : Database → Status
status_of db =
    let S = state_of db in
    record {
      time = now_of S;
      generation = S.generation;
      oldest = oldest_of S.closed S.generation;
      entries = S.events;
      repair = repair_status (repair_of db) (repair_worker_of db);
    }

-- the worker that began the repair under way, where a request is for the repair of another
abbrev pub other_worker : Option ℕ → Option ℕ → Option ℕ
other_worker None beginner = None
other_worker (Some told) None = None
other_worker (Some told) (Some beginner) = if told == beginner then None else Some beginner

-- a request is answered, unless it is for the repair of another worker than this one
abbrev pub unless_of_another : Option ℕ → Result Answered Refusal → Result Answered Refusal
unless_of_another None outcome = outcome
unless_of_another (Some worker) outcome = Err (refusals.RepairOfAnother worker)

-- what is answered, unless the database refuses
abbrev pub unless_refused : Option DbError → Answered → Result Answered Refusal
unless_refused None answered = Ok answered
unless_refused (Some error) answered = Err (refusals.Event error)

-- the session goes on with another database, and tells how far its repair is
abbrev pub progress_answer : OpenSession → Database → Answered
progress_answer session db = record { answer = answers.Repairing (progress_now db); session = with_database session db }

-- the session goes on with another database, and tells how this one stands
abbrev pub status_answer : OpenSession → Database → Answered
status_answer session db = record { answer = answers.Standing (status_of db); session = with_database session db }

-- the database of which the repair has done the slots of a ground of this size, none of which is due
abbrev pub with_ground_steps : Database → ℕ → ℕ → Database
with_ground_steps db worker size = with_steps db worker (min size (slots_left (state_of db)))

-- a repair begins, and does the slots of the ground
abbrev pub begin : OpenSession → ℕ → List Edit → Result Answered Refusal
begin session worker edits =
    let event = events.Begin edits in
    unless_refused (refusal_in_session session.database event) (progress_answer session (with_ground_steps (with_event session.database worker event) worker session.numbering.ground_slots))

-- the repair does slots: at most this many, and no more than are left
abbrev pub step : OpenSession → ℕ → ℕ → Result Answered Refusal
step session worker most =
    let S = state_in session in
    unless_refused (unless_repairing S.phase) (progress_answer session (with_steps session.database worker (min most (slots_left S))))

-- the database of which the repair has done all slots
abbrev pub with_all_steps : Database → ℕ → Database
with_all_steps db worker = with_steps db worker (slots_left (state_of db))

-- the session goes on after the switch from this database, all of whose slots are done
abbrev pub after_switch : OpenSession → ℕ → Database → Answered
after_switch session worker db =
    let S = state_of db in
    record {
      answer = answers.Finished (S.generation + 1) (now_of S) (reexecuted_of db.catalog S.phase S.slots);
      session = with_database session (with_event db worker events.Switch);
    }

-- the repair does all slots that are left, and the next generation becomes the current one
abbrev pub finish : OpenSession → ℕ → Result Answered Refusal
finish session worker =
    unless_refused (unless_repairing (state_in session).phase) (after_switch session worker (with_all_steps session.database worker))

-- the repair is given up
abbrev pub abort : OpenSession → ℕ → Result Answered Refusal
abort session worker =
    unless_refused (unless_repairing (state_in session).phase) (status_answer session (with_event session.database worker events.Abort))
