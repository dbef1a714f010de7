-- The rows that differ behind one, table by table.
use Rattle.std.specs.Prelude.{ℕ, ◌==◌, ℤ, List, map, Option, None, Some, if◌then◌else◌}
use Rattle.tt_values.specs.declared.row_id.RowId.{RowId}
use Rattle.tt_generations.specs.RowChanges.{changes_after}
use Rattle.tt_db.specs.Database.{Database}
use Rattle.tt_answers.specs.declared.answer.DiffEntry.{DiffEntry}
use Rattle.tt_commands.specs.declared.asked_repair.AskedRepair.{AskedRepair}
use Rattle.tt_commands.specs.DiffEntries.{differences_by, entry_in}

-- the first table with rows behind this one, if one is given
abbrev pub first_table : Option RowId → ℕ
first_table None = 0
first_table (Some row) = row.table

-- the key behind which the rows of such a table are behind this one, if it is in the table
abbrev pub low_key : Option RowId → ℕ → Option ℤ
low_key None table = None
low_key (Some row) table = if row.table == table then Some row.key else None

-- the rows of a table that differ and have greater keys than this one, if one is given, each with its table
abbrev pub entries_after : Database → AskedRepair → ℕ → Option ℤ → List DiffEntry
entries_after db repair table low = map (entry_in table) (changes_after low (differences_by db repair table))
