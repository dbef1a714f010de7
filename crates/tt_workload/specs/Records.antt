-- The records of calls, and their lines.
use Rattle.std.specs.Prelude.{ℕ, ◌+◌, nat_lt, if◌then◌else◌, Bool, true, false, List, [], ◌++◌, Option, Some, None, codes}
use Rattle.std.specs.List.{flat_map}
use Rattle.std.specs.Fmt.{decimal}
use Rattle.tt_values.specs.declared.statement.Select.{Select}
use Rattle.tt_values.specs.declared.reply.Reply.{Reply}
use Rattle.tt_values.specs.Tables.{Tables}
use Rattle.tt_values.specs.Effect.{answer_of}
use Rattle.tt_values.specs.Action.{replies_of}
use Rattle.tt_generations.specs.TwoGenerations.{is_repairing, done_of}
use Rattle.tt_db.specs.State.{State, now_of, current_at, next_at}
use Rattle.tt_records.specs.declared.record.Record.{Record}
use Rattle.tt_records.specs.declared.record.What.{What}
use Rattle.tt_records.specs.declared.record.What.TheVariants as whats
use Rattle.tt_records.specs.declared.changed.Changed.{Changed}
use Rattle.tt_records.specs.declared.changed.After.{After}
use Rattle.tt_records.specs.declared.changed.After.TheVariants as afters
use Rattle.tt_document.specs.declared.document.Call.{Call}
use Rattle.tt_document.specs.declared.document.Ask.{Ask}
use Rattle.tt_document.specs.declared.document.Ask.TheVariants as asks
use Rattle.tt_workload.specs.Printing.{reply_text, replies_text}
use Rattle.tt_workload.specs.JsonReport.{json_of_record, json_of_change}

-- a select's answer, in a state: at the given time, which may be later than the current one, or else at the current one
abbrev pub read_in : State → Select → Option ℕ → What
read_in S q None = whats.Read q (now_of S) (answer_of q (current_at S (now_of S)))
read_in S q (Some time) = if nat_lt (now_of S) time then whats.Later (now_of S) else whats.Read q time (answer_of q (current_at S time))

-- a preview's answer, in a state
abbrev pub preview_in : State → Select → What
preview_in S q = if is_repairing S.phase then whats.Preview (done_of S.phase) (answer_of q (next_at S (done_of S.phase))) else whats.NotRepairing

-- what a call asks for and its answer, in a state
abbrev pub answer_in : State → Ask → What
answer_in S (asks.Write action) = whats.Write (now_of S + 1) (replies_of action (current_at S (now_of S)))
answer_in S (asks.Read q at) = read_in S q at
answer_in S (asks.Preview q) = preview_in S q

-- the record of the call of a number, in the state before it
abbrev pub record_in : ℕ → State → Call → Record
record_in number S call = record { call = number; worker = call.worker; what = answer_in S call.ask }

-- records that are kept, or not
abbrev pub kept : Bool → List Record → List Record
kept true records = records
kept false records = []

-- the start of a record's line: the numbers of the call and of its worker
abbrev pub caller_text : ℕ → ℕ → List ℕ
caller_text number worker = codes "call " ++ (decimal number ++ (codes " worker " ++ decimal worker))

-- a reply, behind its label and the time that it is right at
abbrev pub reply_at : List ℕ → ℕ → Reply → List ℕ
reply_at label time reply = label ++ (decimal time ++ (codes " " ++ reply_text reply))

-- the rest of a record's line: the answer
abbrev pub answer_text : What → List ℕ
answer_text (whats.Write slot replies) = codes " slot " ++ (decimal slot ++ (codes " " ++ replies_text replies))
answer_text (whats.Read select time reply) = reply_at (codes " time ") time reply
answer_text (whats.Preview done reply) = reply_at (codes " preview ") done reply
answer_text (whats.Later now) = codes " refused later than " ++ decimal now
answer_text whats.NotRepairing = codes " refused not repairing"

-- the line of a record
abbrev pub text_of_record : Record → List ℕ
text_of_record r = caller_text r.call r.worker ++ (answer_text r.what ++ codes "\n")

-- the line of a record in a report, which may be JSON
abbrev pub line_of_record : Bool → Tables → Record → List ℕ
line_of_record json tables r = if json then json_of_record tables r else text_of_record r

-- the lines of records
abbrev pub lines_of_records : Bool → Tables → List Record → List ℕ
lines_of_records json tables records = flat_map (line_of_record json tables) records

-- what stands in the place of replies
abbrev pub after_text : After → List ℕ
after_text afters.Cancelled = codes "cancelled"
after_text (afters.Replies replies) = replies_text replies

-- the line of a changed reply, behind a label
unfoldable pub change_text : List ℕ → Changed → List ℕ
change_text label c = label ++ (decimal c.call ++ (codes " " ++ (replies_text c.before ++ (codes " -> " ++ (after_text c.after ++ codes "\n")))))

-- the line of a changed reply
abbrev pub text_of_change : Changed → List ℕ
text_of_change c = change_text (codes "changed call ") c

-- the line of a changed reply of one of these records, which as text stands behind a label
abbrev pub line_of_change : Bool → Tables → List Record → List ℕ → Changed → List ℕ
line_of_change json tables records label c = if json then json_of_change tables records c else change_text label c

-- the lines of changed replies
abbrev pub lines_of_changes : Bool → Tables → List Record → List Changed → List ℕ
lines_of_changes json tables records changes = flat_map (line_of_change json tables records (codes "changed call ")) changes

-- the lines of replies that a repair would change
abbrev pub lines_of_would_be_changes : Bool → Tables → List Record → List Changed → List ℕ
lines_of_would_be_changes json tables records changes = flat_map (line_of_change json tables records (codes "would change call ")) changes
