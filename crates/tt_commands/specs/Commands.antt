-- What an open session answers to a request, and the session after it, or why the request is refused.
use Rattle.std.specs.Prelude.{ℕ, ◌+◌, ◌==◌, Option, None, Some, option_map, Result, Ok, Err, if◌then◌else◌}
use Rattle.tt_values.specs.declared.action.Action.{Action}
use Rattle.tt_values.specs.Action.{replies_of}
use Rattle.tt_db.specs.declared.event.Event.TheVariants as events
use Rattle.tt_db.specs.Database.{now_in, current_of_db, repair_worker_of}
use Rattle.tt_records.specs.declared.record.What.TheVariants as whats
use Rattle.tt_requests.specs.declared.request.Command.{Command}
use Rattle.tt_requests.specs.declared.request.Command.TheVariants as commands
use Rattle.tt_requests.specs.declared.request.Request.{Request}
use Rattle.tt_requests.specs.declared.request.SlotFilter.{SlotFilter}
use Rattle.tt_requests.specs.Asked.{repair_worker_told}
use Rattle.tt_requests.specs.declared.told.ToldTime.{ToldTime}
use Rattle.tt_requests.specs.Numbers.{Numbering, told_time}
use Rattle.tt_commands.specs.declared.session_change.StampedSlot.{StampedSlot}
use Rattle.tt_commands.specs.Session.{OpenSession, with_database, with_record, with_stamp_if}
use Rattle.tt_answers.specs.declared.answer.Refusal.{Refusal}
use Rattle.tt_answers.specs.declared.answer.Refusal.TheVariants as refusals
use Rattle.tt_answers.specs.declared.answer.Answer.{Answer}
use Rattle.tt_answers.specs.declared.answer.Answer.TheVariants as answers
use Rattle.tt_commands.specs.Answers.{Answered}
use Rattle.tt_commands.specs.Room.{refusal_in_session}
use Rattle.tt_commands.specs.Repairing.{with_event, status_of, unless_refused, other_worker, unless_of_another, step, finish, abort}
use Rattle.tt_commands.specs.Reading.{preview}
use Rattle.tt_commands.specs.ToldRequests.{read_as_told, begin_as_told, first_slot, last_slot}
use Rattle.tt_commands.specs.Forgetting.{forget}
use Rattle.tt_commands.specs.SlotEntries.{slot_entries}
use Rattle.tt_commands.specs.ChangeEntries.{changes, next_changes}
use Rattle.tt_commands.specs.CauseEntries.{why}
use Rattle.tt_commands.specs.DiffEntries.{diff}
use Rattle.tt_commands.specs.Trials.{would}

-- a slot and its stamp, if it has one
abbrev pub stamped : ℕ → Option ℕ → Option StampedSlot
stamped slot stamp = option_map (λ s. record { slot = slot; stamp = s }) stamp

-- an action takes the next slot: its replies are told, and recorded, and its stamp is kept
abbrev pub written : OpenSession → ℕ → Action → Option ℕ → Answered
written session worker action stamp =
    let db = session.database in
    let slot = now_in db + 1 in
    let replies = replies_of action (current_of_db db (now_in db)) in
    record {
      answer = answers.Written slot replies;
      session = with_stamp_if (with_record (with_database session (with_event db worker (events.Write action))) worker (whats.Write slot replies)) (stamped slot stamp);
    }

-- an action takes the next slot, unless it is refused
abbrev pub write : OpenSession → ℕ → Action → Option ℕ → Result Answered Refusal
write session worker action stamp = unless_refused (refusal_in_session session.database (events.Write action)) (written session worker action stamp)

-- the session stays as it is
abbrev pub unchanged : OpenSession → Answer → Result Answered Refusal
unchanged session answer = Ok (record { answer = answer; session = session })

-- how the database stands
abbrev pub status : OpenSession → Result Answered Refusal
status session = unchanged session (answers.Standing (status_of session.database))

-- what is told of the slots from one to another, by the numbers of the database, and the current time
abbrev pub slots_between : OpenSession → ℕ → ℕ → SlotFilter → Result Answered Refusal
slots_between session from to filter =
    unchanged session (answers.Slots (now_in session.database) (slot_entries session from to filter))

-- what is told of the slots from one to another behind the horizon
abbrev pub slots : OpenSession → ToldTime → ToldTime → SlotFilter → Result Answered Refusal
slots session from to filter = slots_between session (first_slot session.numbering from) (last_slot session.numbering to) filter

-- the tables, and how much is kept
abbrev pub declared_tables : OpenSession → Result Answered Refusal
declared_tables session =
    unchanged session (answers.Declared session.database.limits.keep session.most_records)

-- a command of a worker is carried out
abbrev pub carried_out : OpenSession → ℕ → Command → Result Answered Refusal
carried_out session worker (commands.Write action stamp) = write session worker action stamp
carried_out session worker (commands.Read select at generation page) = read_as_told session worker select generation at page
carried_out session worker (commands.Preview select page) = preview session select page
carried_out session worker (commands.Begin edits) = begin_as_told session worker edits
carried_out session worker (commands.Step most told) = step session worker most
carried_out session worker (commands.Finish told) = finish session worker
carried_out session worker (commands.Abort told) = abort session worker
carried_out session worker commands.Status = status session
carried_out session worker (commands.Slots from to filter) = slots session from to filter
carried_out session worker (commands.Changes page) = changes session page
carried_out session worker (commands.NextChanges page) = next_changes session page
carried_out session worker commands.Tables = declared_tables session
carried_out session worker (commands.Why generation page) = why session generation page
carried_out session worker (commands.Diff generation page) = diff session generation page
carried_out session worker (commands.Would edits) = would session edits
carried_out session worker (commands.Forget time) = forget session time

-- the current time, if a request expects another one
abbrev pub moved_to : Numbering → ℕ → Option ToldTime → Option ℕ
moved_to numbering now None = None
moved_to numbering now (Some expected) = if expected.number == (told_time numbering now).number then None else Some now

-- a request is carried out, unless the time isn't the one that it expects
abbrev pub unless_moved : Option ℕ → Result Answered Refusal → Result Answered Refusal
unless_moved None outcome = outcome
unless_moved (Some now) outcome = Err (refusals.Moved now)

-- what becomes of a request: it is carried out, unless it is refused
abbrev pub outcome_of_request : OpenSession → Request → Result Answered Refusal
outcome_of_request session request =
    unless_moved (moved_to session.numbering (now_in session.database) request.expected) (
    unless_of_another (other_worker (repair_worker_told request.command) (repair_worker_of session.database)) (
    carried_out session request.worker request.command))
