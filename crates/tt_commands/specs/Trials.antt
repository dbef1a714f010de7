-- What a repair would come to: the answer is told of the database after it, and nothing of that is kept.
use Rattle.std.specs.Prelude.{List, map, None, Result}
use Rattle.tt_repair_laws.specs.declared.edit.Edit.{Edit}
use Rattle.tt_generations.specs.TwoGenerations.{reexecuted_of}
use Rattle.tt_db.specs.declared.event.Event.TheVariants as events
use Rattle.tt_db.specs.State.{now_of}
use Rattle.tt_db.specs.Database.{Database, state_of}
use Rattle.tt_db.specs.Trials.{tried_database}
use Rattle.tt_records.specs.declared.record.Record.{Record}
use Rattle.tt_records.specs.Changes.{next_change_of}
use Rattle.tt_requests.specs.declared.request.ToldEdits.{ToldEdits}
use Rattle.tt_requests.specs.Numbers.{Numbering}
use Rattle.tt_requests.specs.Questions.{every_change}
use Rattle.tt_requests.specs.ToldEdits.{own_edit}
use Rattle.tt_answers.specs.declared.answer.Refusal.{Refusal}
use Rattle.tt_answers.specs.declared.answer.Answer.{Answer}
use Rattle.tt_answers.specs.declared.answer.Answer.TheVariants as answers
use Rattle.tt_commands.specs.declared.asked_repair.AskedRepair.TheVariants.{UnderWay}
use Rattle.tt_commands.specs.Session.{OpenSession}
use Rattle.tt_commands.specs.Answers.{Answered}
use Rattle.tt_commands.specs.Room.{refusal_in_session}
use Rattle.tt_commands.specs.Repairing.{unless_refused}
use Rattle.tt_commands.specs.ToldRequests.{missing_if_idle, unless_missing}
use Rattle.tt_commands.specs.ChangeEntries.{entries_of_changes}
use Rattle.tt_commands.specs.CauseEntries.{slot_before, cause_entries}
use Rattle.tt_commands.specs.DiffEntries.{diff_entries}

-- what is told of a database whose repair has done all slots: how many slots there are, how many of them were re-executed and why, which of the
-- recorded calls will be answered differently, and which rows differ
abbrev pub trial_of : Numbering → List Record → Database → Answer
trial_of numbering records db =
    let S = state_of db in
    answers.Trial (now_of S) (reexecuted_of db.catalog S.phase S.slots)
    (cause_entries db UnderWay (slot_before numbering None))
    (entries_of_changes db every_change (next_change_of db.catalog S) records)
    (diff_entries db UnderWay)

-- the session stays, and tells what a repair with these edits would come to
abbrev pub trial_answer : OpenSession → List Edit → Answered
trial_answer session edits = record { answer = trial_of session.numbering session.records (tried_database session.database edits); session = session }

-- what a repair with these edits would come to, unless its beginning is refused
abbrev pub trial : OpenSession → List Edit → Result Answered Refusal
trial session edits = unless_refused (refusal_in_session session.database (events.Begin edits)) (trial_answer session edits)

-- the same of edits whose slots are told
abbrev pub would : OpenSession → ToldEdits → Result Answered Refusal
would session told = unless_missing (missing_if_idle session told.edits) (trial session (map (own_edit session.numbering) told.edits))
