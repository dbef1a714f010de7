-- Which rows differ between the generations of a repair.
use Rattle.std.specs.Prelude.{ℕ, ◌==◌, Bool, true, List, [], length, map, filter, find, Option, None, Some, Result}
use Rattle.std.specs.List.{flat_map, range_with_len}
use Rattle.std.specs.Option.{option_map}
use Rattle.std.specs.Ordering.{is_lt}
use Rattle.tt_values.specs.declared.row_id.RowId.{RowId}
use Rattle.tt_values.specs.Action.{row_id_cmp}
use Rattle.tt_causes.specs.Differences.{RowChange, differences}
use Rattle.tt_generations.specs.RowChanges.{differences_in}
use Rattle.tt_db.specs.State.{ClosedGeneration}
use Rattle.tt_db.specs.Database.{Database, state_of}
use Rattle.tt_requests.specs.declared.request.DiffPage.{DiffPage}
use Rattle.tt_requests.specs.declared.told.ToldGeneration.{ToldGeneration}
use Rattle.tt_answers.specs.declared.answer.DiffEntry.{DiffEntry}
use Rattle.tt_answers.specs.declared.answer.Refusal.{Refusal}
use Rattle.tt_answers.specs.declared.answer.Answer.{Answer}
use Rattle.tt_answers.specs.declared.answer.Answer.TheVariants as answers
use Rattle.tt_commands.specs.declared.asked_repair.AskedRepair.{AskedRepair}
use Rattle.tt_commands.specs.declared.asked_repair.AskedRepair.TheVariants.{UnderWay, Closing}
use Rattle.tt_commands.specs.Session.{OpenSession}
use Rattle.tt_commands.specs.Answers.{Answered}
use Rattle.tt_commands.specs.AskedRepairs.{asked_repair, done_by, answer_of}
use Rattle.tt_commands.specs.CauseEntries.{first_entries, more_follow}

-- what differs in a table by the repair that closed a generation, which did all of its slots
abbrev pub differences_of_closed : Option ClosedGeneration → ℕ → List RowChange
differences_of_closed None table = []
differences_of_closed (Some c) table = differences c.slots c.edits (length c.slots) table

-- the rows of a table that differ between the generations at the last slot that a repair has done, by rising key
abbrev pub differences_by : Database → AskedRepair → ℕ → List RowChange
differences_by db UnderWay table = let S = state_of db in differences_in S.phase S.slots table
differences_by db (Closing number) table = differences_of_closed (find (λ c. c.number == number) (state_of db).closed) table

-- a row that differs, with its table
abbrev pub entry_in : ℕ → RowChange → DiffEntry
entry_in table c = record { table = table; change = record { key = c.key; before = c.before; after = c.after } }

-- the rows of a table that differ, each with its table
abbrev pub table_entries : Database → AskedRepair → ℕ → List DiffEntry
table_entries db repair table = map (entry_in table) (differences_by db repair table)

-- all rows that differ, by table, then by key
abbrev pub diff_entries : Database → AskedRepair → List DiffEntry
diff_entries db repair = flat_map (table_entries db repair) (range_with_len 0 (length db.catalog))

-- the row that differs
abbrev pub row_of_entry : DiffEntry → RowId
row_of_entry e = record { table = e.table; key = e.change.key }

-- whether a row that differs is behind this one, by table, then by key, if one is given
abbrev pub is_behind : Option RowId → DiffEntry → Bool
is_behind None e = true
is_behind (Some row) e = is_lt (row_id_cmp row (row_of_entry e))

-- the rows that differ behind this one, if one is given
abbrev pub entries_behind : Database → AskedRepair → Option RowId → List DiffEntry
entries_behind db repair after = filter (is_behind after) (diff_entries db repair)

-- how many slots a repair has done, and the page that is asked for of the rows that differ
abbrev pub differences_answer : OpenSession → DiffPage → AskedRepair → Answer
differences_answer session page repair =
    let db = session.database in
    let entries = entries_behind db repair page.after in
    answers.Differences (done_by db repair) (first_entries page.most entries) (option_map (λ most. more_follow (Some most) entries) page.most)

-- the rows that differ between the generations of the repair under way, or of the one that closed a generation
abbrev pub diff : OpenSession → Option ToldGeneration → DiffPage → Result Answered Refusal
diff session generation page = answer_of session (differences_answer session page) (asked_repair session generation)
