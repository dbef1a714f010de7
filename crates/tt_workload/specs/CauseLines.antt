-- The lines of the slots that a repair has re-executed, each with its cause.
use Rattle.std.specs.Prelude.{ℕ, Bool, if◌then◌else◌, List, [], ◌++◌, length, Option, None, Some, unwrap_or, codes}
use Rattle.std.specs.List.{flat_map, range_with_len}
use Rattle.std.specs.Option.{option_map}
use Rattle.std.specs.Fmt.{decimal, signed_decimal}
use Rattle.tt_values.specs.declared.row_id.RowId.{RowId}
use Rattle.tt_values.specs.Tables.{Tables}
use Rattle.tt_parts.specs.declared.partition.Partition.{Partition}
use Rattle.tt_causes.specs.Causes.{Cause, Edited, Wrote, Names, Reads, Scans}
use Rattle.tt_generations.specs.TwoGenerations.{done_of}
use Rattle.tt_db.specs.State.{slots_in}
use Rattle.tt_db.specs.Database.{Database, state_of}
use Rattle.tt_db.specs.Causes.{cause_of, cause_in_of}
use Rattle.tt_grammar.specs.Printing.{value_text}
use Rattle.tt_grammar.specs.WriteText.{table_name, column_name}
use Rattle.tt_workload.specs.declared.options.Options.{Options}
use Rattle.tt_workload.specs.declared.told_repair.ToldRepair.{ToldRepair}
use Rattle.tt_workload.specs.declared.told_repair.ToldRepair.TheVariants.{UnderWay, ThatClosed}
use Rattle.tt_workload.specs.JsonReport.{json_of_redone}

-- the cause of a slot by a repair, if that re-executed it
abbrev pub cause_by : Database → ToldRepair → ℕ → Option Cause
cause_by db UnderWay slot = cause_of db slot
cause_by db (ThatClosed generation) slot = cause_in_of db generation slot

-- how many slots a repair has done: one that closed a generation has done all of that. Where there is no such repair, or its generation can't be read, none
abbrev pub slots_done : Database → ToldRepair → ℕ
slots_done db UnderWay = done_of (state_of db).phase
slots_done db (ThatClosed generation) = unwrap_or (option_map length (slots_in (state_of db) generation)) 0

-- a row: the name of its table, and its key
abbrev pub row_name : Tables → RowId → List ℕ
row_name tables r = table_name tables r.table ++ (codes " " ++ signed_decimal r.key)

-- a partition: the name of its table, that of its column, and the value
abbrev pub partition_name : Tables → Partition → List ℕ
partition_name tables p =
    table_name tables p.table ++ (codes " " ++ (column_name tables p.table p.column ++ (codes " " ++ value_text p.value)))

-- the end of a line that names something dirty: the slot that it got dirty with
abbrev pub since_text : ℕ → List ℕ
since_text since = codes " since " ++ (decimal since ++ codes "\n")

-- the rest of the line of a re-executed slot: its cause
abbrev pub cause_text : Tables → Cause → List ℕ
cause_text tables Edited = codes " edited\n"
cause_text tables (Wrote r since) = codes " wrote " ++ (row_name tables r ++ since_text since)
cause_text tables (Names r since) = codes " names " ++ (row_name tables r ++ since_text since)
cause_text tables (Reads p since) = codes " reads " ++ (partition_name tables p ++ since_text since)
cause_text tables (Scans table since) = codes " scans " ++ (table_name tables table ++ since_text since)

-- the line of a re-executed slot with its cause
abbrev pub redone_text : Tables → ℕ → Cause → List ℕ
redone_text tables slot cause = codes "redone slot " ++ (decimal slot ++ cause_text tables cause)

-- the line of a slot in a report, which may be JSON. A slot that wasn't re-executed has none
abbrev pub redone_line : Bool → Tables → ℕ → Option Cause → List ℕ
redone_line json tables slot None = []
redone_line json tables slot (Some cause) = if json then json_of_redone tables slot cause else redone_text tables slot cause

-- the lines of so many slots, from this one on
abbrev pub redone_lines_from : Bool → Database → ToldRepair → ℕ → ℕ → List ℕ
redone_lines_from json db repair slot count = flat_map (λ t. redone_line json db.catalog t (cause_by db repair t)) (range_with_len slot count)

-- the lines of the slots that a repair has re-executed
abbrev pub redone_lines : Bool → Database → ToldRepair → List ℕ
redone_lines json db repair = redone_lines_from json db repair 1 (slots_done db repair)

-- the same, where they are asked for
abbrev pub redone_lines_if : Options → Database → ToldRepair → List ℕ
redone_lines_if options db repair = if options.why then redone_lines options.json db repair else []
