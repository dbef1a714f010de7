-- Answers as they are printed: each is one JSON object, without white space, and a line feed.
use Rattle.std.specs.Prelude.{ℕ, ◌==◌, Bool, if◌then◌else◌, List, [], ◌∷◌, ◌++◌, map, Option, None, Some, option_map, codes}
use Rattle.std.specs.List.{flat_map}
use Rattle.tt_requests.specs.Numbers.{Numbering}
use Rattle.tt_values.specs.declared.row.Row.{Row}
use Rattle.tt_values.specs.declared.action.Action.{Action}
use Rattle.tt_values.specs.declared.statement.Select.{Select}
use Rattle.tt_values.specs.declared.reply.Reply.{Reply}
use Rattle.tt_values.specs.declared.reply.Reply.TheVariants as replies
use Rattle.tt_values.specs.Tables.{Tables}
use Rattle.tt_grammar.specs.Version.{newest_session_version}
use Rattle.tt_generations.specs.declared.progress.Progress.{Progress}
use Rattle.tt_records.specs.declared.record.What.{What}
use Rattle.tt_records.specs.declared.record.What.TheVariants as whats
use Rattle.tt_records.specs.declared.changed.Changed.{Changed}
use Rattle.tt_records.specs.declared.changed.After.{After}
use Rattle.tt_records.specs.declared.changed.After.TheVariants as afters
use Rattle.tt_grammar.specs.Quoting.{quoted}
use Rattle.tt_grammar.specs.Printing.{row_text}
use Rattle.tt_grammar.specs.JsonText.{Member, number_member, array_text, object_text, flag_text, text_or_null}
use Rattle.tt_grammar.specs.WriteText.{table_name, equals_member, named_action_members, action_members, action_members_or_null, tables_text}
use Rattle.tt_answers.specs.declared.answer.RepairStatus.{RepairStatus}
use Rattle.tt_answers.specs.declared.answer.Status.{Status}
use Rattle.tt_answers.specs.declared.answer.RowPage.{RowPage}
use Rattle.tt_answers.specs.declared.answer.SlotEntry.{SlotEntry}
use Rattle.tt_answers.specs.declared.answer.Place.{Place}
use Rattle.tt_answers.specs.declared.answer.Place.TheVariants as places
use Rattle.tt_answers.specs.declared.answer.AskedFor.{AskedFor}
use Rattle.tt_answers.specs.declared.answer.AskedFor.TheVariants as asked
use Rattle.tt_answers.specs.declared.answer.ChangeEntry.{ChangeEntry}
use Rattle.tt_answers.specs.declared.answer.CauseEntry.{CauseEntry}
use Rattle.tt_answers.specs.declared.answer.DiffEntry.{DiffEntry}
use Rattle.tt_answers.specs.declared.answer.Answer.{Answer}
use Rattle.tt_answers.specs.declared.answer.Answer.TheVariants as answers
use Rattle.tt_answers.specs.ToldText.{time_member, generation_member}
use Rattle.tt_answers.specs.CauseText.{cause_text}
use Rattle.tt_answers.specs.DiffText.{diff_text}
use Rattle.tt_answers.specs.RefusalText.{out_of_memory, refusal_members, fault_members}

-- a reply as items of an array: rows are one item each, and any other reply is one item
abbrev pub reply_items : Reply → List (List ℕ)
reply_items replies.Inserted = quoted (codes "inserted") ∷ []
reply_items replies.Duplicate = quoted (codes "duplicate") ∷ []
reply_items (replies.Updated count) = object_text (number_member (codes "updated") count ∷ []) ∷ []
reply_items (replies.Deleted count) = object_text (number_member (codes "deleted") count ∷ []) ∷ []
reply_items (replies.Rows rows) = map row_text rows

-- the replies to an action, or the rows of a select
abbrev pub replies_text : List Reply → List ℕ
replies_text replies = array_text (flat_map reply_items replies)

-- rows
abbrev pub rows_text : List Row → List ℕ
rows_text rows = array_text (map row_text rows)

-- the members that tell how far a repair is
abbrev pub progress_members : Numbering → Progress → List Member
progress_members numbering p = time_member numbering (codes "done") p.done ∷ number_member (codes "left") p.left ∷ number_member (codes "rerun") p.rerun ∷ []

-- the members that tell how a repair stands: how far it is, and the worker that began it
abbrev pub repair_members : Numbering → RepairStatus → List Member
repair_members numbering repair = progress_members numbering repair.progress ++ number_member (codes "worker") repair.worker ∷ []

-- how a repair stands, as an object
abbrev pub repair_text : Numbering → RepairStatus → List ℕ
repair_text numbering repair = object_text (repair_members numbering repair)

-- the time that was last forgotten up to, where something was forgotten
abbrev pub horizon_members : Numbering → List Member
horizon_members numbering = if numbering.horizon == 0 then [] else number_member (codes "horizon") numbering.horizon ∷ []

-- how the database stands
abbrev pub status_members : Numbering → Status → List Member
status_members numbering status =
    time_member numbering (codes "time") status.time
    ∷ generation_member numbering (codes "generation") status.generation
    ∷ generation_member numbering (codes "oldest") status.oldest
    ∷ number_member (codes "entries") status.entries
    ∷ (codes "repair", text_or_null (option_map (repair_text numbering) status.repair))
    ∷ horizon_members numbering

-- whether more follow, if that is told
abbrev pub more_members : Option Bool → List Member
more_members None = []
more_members (Some more) = (codes "more", flag_text more) ∷ []

-- rows that are read
abbrev pub page_members : RowPage → List Member
page_members page = (codes "rows", rows_text page.rows) ∷ more_members page.more

-- the action that was asked for, if that is told
abbrev pub asked_members : Tables → Option Action → List Member
asked_members tables None = []
asked_members tables (Some action) = named_action_members (codes "asked") (codes "asked_whole") tables action

-- the stamp, if there is one
abbrev pub stamp_members : Option ℕ → List Member
stamp_members None = []
stamp_members (Some stamp) = number_member (codes "stamp") stamp ∷ []

-- a slot: its number, its worker, its stamp, its action and its replies, which are null where it is cancelled, and the action that was asked for
abbrev pub slot_members : Tables → Numbering → SlotEntry → List Member
slot_members tables numbering entry =
    time_member numbering (codes "slot") entry.number
    ∷ number_member (codes "worker") entry.worker
    ∷ (stamp_members entry.stamp
    ++ (action_members_or_null tables entry.slot.action
    ++ (codes "replies", text_or_null (option_map replies_text entry.slot.replies))
    ∷ asked_members tables entry.asked))

-- a slot, as an object
abbrev pub slot_text : Tables → Numbering → SlotEntry → List ℕ
slot_text tables numbering entry = object_text (slot_members tables numbering entry)

-- where a recorded call stands: a write at its slot, a select at its time. What is refused, and a preview, stands nowhere
abbrev pub place_of : What → Option Place
place_of (whats.Write slot replies) = Some (places.Slot slot)
place_of (whats.Read select time reply) = Some (places.Time time)
place_of (whats.Preview done reply) = None
place_of (whats.Later now) = None
place_of whats.NotRepairing = None

-- a slot, or a time
abbrev pub place_member : Numbering → Place → Member
place_member numbering (places.Slot slot) = time_member numbering (codes "slot") slot
place_member numbering (places.Time time) = time_member numbering (codes "time") time

-- what stands in the place of replies
abbrev pub after_text : After → List ℕ
after_text afters.Cancelled = quoted (codes "cancelled")
after_text (afters.Replies replies) = replies_text replies

-- the replies before and after
abbrev pub reply_change_members : Changed → List Member
reply_change_members change = (codes "before", replies_text change.before) ∷ (codes "after", after_text change.after) ∷ []

-- the worker that made a call, if that is told
abbrev pub worker_members : Option ℕ → List Member
worker_members None = []
worker_members (Some worker) = number_member (codes "worker") worker ∷ []

-- a select: its table and its conditions
abbrev pub select_members : Tables → Select → List Member
select_members tables select = (codes "select", quoted (table_name tables select.table)) ∷ equals_member tables select.table select.equals ∷ []

-- what a call asked for, if that is told
abbrev pub asked_for_members : Tables → Option AskedFor → List Member
asked_for_members tables None = []
asked_for_members tables (Some (asked.Action action)) = action_members tables action
asked_for_members tables (Some (asked.Select select)) = select_members tables select

-- a changed reply: its call, who made it, its slot or time, the replies before and after, and what it asked for
abbrev pub change_members : Tables → Numbering → ChangeEntry → List Member
change_members tables numbering entry =
    number_member (codes "call") entry.change.call
    ∷ (worker_members entry.worker
    ++ place_member numbering entry.place
    ∷ (reply_change_members entry.change ++ asked_for_members tables entry.asked))

-- a changed reply, as an object
abbrev pub change_text : Tables → Numbering → ChangeEntry → List ℕ
change_text tables numbering entry = object_text (change_members tables numbering entry)

-- the newest version of sessions, the tables, how many closed generations are kept, and how many records
abbrev pub declared_members : Tables → ℕ → ℕ → List Member
declared_members tables keep records =
    number_member (codes "version") newest_session_version
    ∷ (codes "tables", tables_text tables)
    ∷ number_member (codes "keep") keep
    ∷ number_member (codes "records") records
    ∷ []

-- the slot that an action took, and the replies to its writes
abbrev pub written_members : Numbering → ℕ → List Reply → List Member
written_members numbering slot replies = time_member numbering (codes "slot") slot ∷ (codes "replies", replies_text replies) ∷ []

-- the generation that is now current, how many slots it has, and how many of them were re-executed
abbrev pub finished_members : Numbering → ℕ → ℕ → ℕ → List Member
finished_members numbering generation slots rerun =
    generation_member numbering (codes "generation") generation
    ∷ time_member numbering (codes "slots") slots
    ∷ number_member (codes "rerun") rerun
    ∷ []

-- the current time, and slots
abbrev pub slots_members : Tables → Numbering → ℕ → List SlotEntry → List Member
slots_members tables numbering time entries =
    time_member numbering (codes "time") time ∷ (codes "slots", array_text (map (slot_text tables numbering) entries)) ∷ []

-- the call of the first record that is kept, changed replies, and whether more follow, if that is told
abbrev pub changes_members : Tables → Numbering → ℕ → List ChangeEntry → Option Bool → List Member
changes_members tables numbering first entries more =
    number_member (codes "from") first ∷ (codes "changed", array_text (map (change_text tables numbering) entries)) ∷ more_members more

-- how many slots a repair has done, those of them that it re-executed, and whether more follow, if that is told
abbrev pub causes_members : Tables → Numbering → ℕ → List CauseEntry → Option Bool → List Member
causes_members tables numbering done entries more =
    time_member numbering (codes "done") done ∷ (codes "redone", array_text (map (cause_text tables numbering) entries)) ∷ more_members more

-- how many slots a repair has done, the rows that differ between the generations then, and whether more follow, if that is told
abbrev pub differences_members : Tables → Numbering → ℕ → List DiffEntry → Option Bool → List Member
differences_members tables numbering done entries more =
    time_member numbering (codes "done") done ∷ (codes "diff", array_text (map (diff_text tables) entries)) ∷ more_members more

-- what a repair would re-execute, the replies that it would change, and the rows that would differ
abbrev pub outcome_members : Tables → Numbering → List CauseEntry → List ChangeEntry → List DiffEntry → List Member
outcome_members tables numbering redone changed diff =
    (codes "redone", array_text (map (cause_text tables numbering) redone))
    ∷ (codes "changed", array_text (map (change_text tables numbering) changed))
    ∷ (codes "diff", array_text (map (diff_text tables) diff))
    ∷ []

-- how many slots there are, and how many of them a repair would re-execute
abbrev pub trial_count_members : Numbering → ℕ → ℕ → List Member
trial_count_members numbering slots rerun = time_member numbering (codes "slots") slots ∷ number_member (codes "rerun") rerun ∷ []

-- the same, and what the repair would come to
abbrev pub trial_members : Tables → Numbering → ℕ → ℕ → List CauseEntry → List ChangeEntry → List DiffEntry → List Member
trial_members tables numbering slots rerun redone changed diff =
    trial_count_members numbering slots rerun ++ outcome_members tables numbering redone changed diff

-- the members of an answer, without its call. The tables are those of the database, whose numbers are told by the numbering
abbrev pub answer_members : Tables → Numbering → Answer → List Member
answer_members tables numbering (answers.Standing status) = status_members numbering status
answer_members tables numbering (answers.Written slot replies) = written_members numbering slot replies
answer_members tables numbering (answers.Selected time page) = time_member numbering (codes "time") time ∷ page_members page
answer_members tables numbering (answers.Previewed done page) = time_member numbering (codes "done") done ∷ page_members page
answer_members tables numbering (answers.Repairing progress) = progress_members numbering progress
answer_members tables numbering (answers.Finished generation slots rerun) = finished_members numbering generation slots rerun
answer_members tables numbering (answers.Slots time entries) = slots_members tables numbering time entries
answer_members tables numbering (answers.Changes first entries more) = changes_members tables numbering first entries more
answer_members tables numbering (answers.Causes done entries more) = causes_members tables numbering done entries more
answer_members tables numbering (answers.Differences done entries more) = differences_members tables numbering done entries more
answer_members tables numbering (answers.Trial slots rerun redone changed diff) = trial_members tables numbering slots rerun redone changed diff
answer_members tables numbering (answers.Declared keep records) = declared_members tables keep records
answer_members tables numbering (answers.Faulty fault) = fault_members fault
answer_members tables numbering (answers.Refused refusal) = refusal_members numbering refusal
answer_members tables numbering answers.OutOfMemory = out_of_memory

-- an object, and a line feed
abbrev pub line_text : List Member → List ℕ
line_text members = object_text members ++ codes "\n"

-- the line of an answer to an opening
abbrev pub opening_text : Numbering → Answer → List ℕ
opening_text numbering answer = line_text (answer_members [] numbering answer)

-- the line of an answer to a call, by its number, and by the worker that made it where that is told
abbrev pub worker_call_text : Tables → Numbering → ℕ → Option ℕ → Answer → List ℕ
worker_call_text tables numbering call worker answer =
    line_text (number_member (codes "call") call ∷ (worker_members worker ++ answer_members tables numbering answer))

-- the same in a session, which tells no worker
abbrev pub call_text : Tables → Numbering → ℕ → Answer → List ℕ
call_text tables numbering call answer = worker_call_text tables numbering call None answer
