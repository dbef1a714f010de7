-- The lines of a report as JSON: one object each, as a session tells the same. A run forgets nothing, so slots, times and generations are told by their own numbers.
use Rattle.std.specs.Prelude.{ℕ, ◌-◌, List, [], ◌∷◌, ◌++◌, slice_get, Option, None, Some, option_and_then, codes}
use Rattle.tt_values.specs.declared.reply.Reply.{Reply}
use Rattle.tt_values.specs.Tables.{Tables}
use Rattle.tt_causes.specs.Causes.{Cause}
use Rattle.tt_causes.specs.Differences.{RowChange}
use Rattle.tt_db.specs.declared.errors.ReadError.TheVariants as read_errors
use Rattle.tt_db.specs.Pages.{rows_in}
use Rattle.tt_records.specs.declared.record.Record.{Record}
use Rattle.tt_records.specs.declared.record.What.{What}
use Rattle.tt_records.specs.declared.record.What.TheVariants as whats
use Rattle.tt_records.specs.declared.changed.Changed.{Changed}
use Rattle.tt_grammar.specs.Quoting.{quoted}
use Rattle.tt_grammar.specs.JsonText.{Member, number_member}
use Rattle.tt_requests.specs.Numbers.{nothing_forgotten}
use Rattle.tt_answers.specs.declared.answer.Answer.{Answer}
use Rattle.tt_answers.specs.declared.answer.Answer.TheVariants as answers
use Rattle.tt_answers.specs.declared.answer.Refusal.TheVariants as refusals
use Rattle.tt_answers.specs.declared.answer.RowPage.{RowPage}
use Rattle.tt_answers.specs.declared.answer.Place.{Place}
use Rattle.tt_answers.specs.CauseText.{slot_cause, cause_text}
use Rattle.tt_answers.specs.DiffText.{diff_text}
use Rattle.tt_answers.specs.AnswerText.{rows_text, place_of, change_text, finished_members, trial_count_members, line_text, worker_call_text}

-- all rows of a reply, as answers have them
abbrev pub page_of : Reply → RowPage
page_of reply = record { rows = rows_in reply; more = None }

-- what a session answers to such a call
abbrev pub answer_of_session : What → Answer
answer_of_session (whats.Write slot replies) = answers.Written slot replies
answer_of_session (whats.Read select time reply) = answers.Selected time (page_of reply)
answer_of_session (whats.Preview done reply) = answers.Previewed done (page_of reply)
answer_of_session (whats.Later now) = answers.Refused (refusals.Read (read_errors.Later now))
answer_of_session whats.NotRepairing = answers.Refused (refusals.Read read_errors.NotRepairing)

-- the line of a record: the session's, with the worker
abbrev pub json_of_record : Tables → Record → List ℕ
json_of_record tables r = worker_call_text tables nothing_forgotten r.call (Some r.worker) (answer_of_session r.what)

-- the line of a repair, with what its switch answered
abbrev pub json_of_repair : ℕ → ℕ → ℕ → List ℕ
json_of_repair generation slots rerun = line_text (finished_members nothing_forgotten generation slots rerun)

-- the line of a repair that is tried
abbrev pub json_of_trial : ℕ → ℕ → List ℕ
json_of_trial rerun slots = line_text (trial_count_members nothing_forgotten slots rerun)

-- the line of a re-executed slot with its cause
abbrev pub json_of_redone : Tables → ℕ → Cause → List ℕ
json_of_redone tables slot cause =
    cause_text tables nothing_forgotten (record { slot = slot; cause = slot_cause cause }) ++ codes "\n"

-- where the call of a number stands, by its record
abbrev pub place_of_call : List Record → ℕ → Option Place
place_of_call records number = option_and_then (λ r. place_of r.what) (slice_get records (number - 1))

-- the line of a changed reply whose call stands at this place. A call that stands nowhere has none
abbrev pub json_of_change_at : Tables → Changed → Option Place → List ℕ
json_of_change_at tables change None = []
json_of_change_at tables change (Some place) =
    change_text tables nothing_forgotten (record { worker = None; place = place; change = change; asked = None }) ++ codes "\n"

-- the line of a changed reply of one of these records
abbrev pub json_of_change : Tables → List Record → Changed → List ℕ
json_of_change tables records change = json_of_change_at tables change (place_of_call records change.call)

-- the line of a row that differs
abbrev pub json_of_diff : Tables → ℕ → RowChange → List ℕ
json_of_diff tables table c =
    diff_text tables (record { table = table; change = record { key = c.key; before = c.before; after = c.after } }) ++ codes "\n"

-- a table, with rows
abbrev pub table_members : List ℕ → Reply → List Member
table_members name rows = (codes "table", quoted name) ∷ (codes "rows", rows_text (rows_in rows)) ∷ []

-- the line of a table
abbrev pub json_of_table : List ℕ → Reply → List ℕ
json_of_table name rows = line_text (table_members name rows)

-- the line of a table of a closed generation, with the generation's last time
abbrev pub json_of_closed : ℕ → ℕ → List ℕ → Reply → List ℕ
json_of_closed generation time name rows =
    line_text (number_member (codes "closed") generation ∷ number_member (codes "time") time ∷ table_members name rows)

-- the last line, with a generation and a time
abbrev pub json_of_end : ℕ → ℕ → List ℕ
json_of_end generation time = line_text (number_member (codes "generation") generation ∷ number_member (codes "time") time ∷ [])
