-- The lines of the rows that differ between the generations.
use Rattle.std.specs.Prelude.{ℕ, Bool, if◌then◌else◌, List, [], ◌++◌, length, Option, None, Some, Result, Ok, Err, codes}
use Rattle.std.specs.List.{flat_map, range_with_len}
use Rattle.tt_values.specs.declared.row.Row.{Row}
use Rattle.tt_values.specs.Tables.{Tables}
use Rattle.tt_causes.specs.Differences.{RowChange}
use Rattle.tt_db.specs.declared.errors.ReadError.{ReadError}
use Rattle.tt_db.specs.Database.{Database}
use Rattle.tt_db.specs.Differences.{right_diff, right_diff_in}
use Rattle.tt_grammar.specs.Printing.{row_text}
use Rattle.tt_workload.specs.declared.options.Options.{Options}
use Rattle.tt_workload.specs.declared.told_repair.ToldRepair.{ToldRepair}
use Rattle.tt_workload.specs.declared.told_repair.ToldRepair.TheVariants.{UnderWay, ThatClosed}
use Rattle.tt_workload.specs.JsonReport.{json_of_diff}
use Rattle.tt_workload.specs.CauseLines.{row_name}

-- the answer to a read that isn't refused. One that is has no items
abbrev pub items_read : {X : Type 0} → Result (List X) ReadError → List X
items_read (Ok items) = items
items_read (Err refusal) = []

-- the rows of a table that differ by a repair, by rising key
abbrev pub differences_by : Database → ToldRepair → ℕ → List RowChange
differences_by db UnderWay table = items_read (right_diff db table)
differences_by db (ThatClosed generation) table = items_read (right_diff_in db generation table)

-- a row, or that there is none
abbrev pub row_or_none : Option Row → List ℕ
row_or_none None = codes "none"
row_or_none (Some row) = row_text row

-- the rest of the line of a row that differs: what it is in both generations
abbrev pub sides_text : Option Row → Option Row → List ℕ
sides_text before after = codes " " ++ (row_or_none before ++ (codes " -> " ++ (row_or_none after ++ codes "\n")))

-- the line of a row that differs: its name, and both sides
abbrev pub diff_text : Tables → ℕ → RowChange → List ℕ
diff_text tables table c =
    codes "diff " ++ (row_name tables (record { table = table; key = c.key }) ++ sides_text c.before c.after)

-- the same in a report, which may be JSON
abbrev pub diff_line : Bool → Tables → ℕ → RowChange → List ℕ
diff_line json tables table c = if json then json_of_diff tables table c else diff_text tables table c

-- the lines of a table
abbrev pub table_diff_lines : Bool → Database → ToldRepair → ℕ → List ℕ
table_diff_lines json db repair table = flat_map (λ c. diff_line json db.catalog table c) (differences_by db repair table)

-- the lines of so many tables, from this one on
abbrev pub diff_lines_from : Bool → Database → ToldRepair → ℕ → ℕ → List ℕ
diff_lines_from json db repair table count = flat_map (λ t. table_diff_lines json db repair t) (range_with_len table count)

-- the lines of the rows that differ by a repair
abbrev pub diff_lines : Bool → Database → ToldRepair → List ℕ
diff_lines json db repair = diff_lines_from json db repair 0 (length db.catalog)

-- the same, where they are asked for
abbrev pub diff_lines_if : Options → Database → ToldRepair → List ℕ
diff_lines_if options db repair = if options.diff then diff_lines options.json db repair else []
