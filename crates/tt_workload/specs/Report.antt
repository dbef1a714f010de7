-- The report of a document, as text or as JSON, in bytes, and the database that its calls leave.
use Rattle.std.specs.Prelude.{ℕ, ◌+◌, ◌-◌, List, [], ◌∷◌, ◌++◌, length, Bool, if◌then◌else◌, Option, Some, None, codes}
use Rattle.std.specs.Fmt.{decimal}
use Rattle.tt_values.specs.declared.statement.Select.{Select}
use Rattle.tt_values.specs.declared.reply.Reply.{Reply}
use Rattle.tt_values.specs.Tables.{Tables}
use Rattle.tt_values.specs.Effect.{answer_of}
use Rattle.tt_values.specs.RowWrites.{Slots, content_of}
use Rattle.tt_generations.specs.TwoGenerations.{reexecuted_of}
use Rattle.tt_db.specs.State.{State, ClosedGeneration, now_of, current_at}
use Rattle.tt_db.specs.declared.event.Event.TheVariants.{Switch}
use Rattle.tt_db.specs.declared.outcome.Outcome.{Outcome}
use Rattle.tt_db.specs.declared.outcome.Outcome.TheVariants.{Switched}
use Rattle.tt_db.specs.Database.{Database, state_of, with_entry, outcome_for}
use Rattle.tt_records.specs.declared.record.Record.{Record}
use Rattle.tt_records.specs.Changes.{changes_of, next_changes_of}
use Rattle.tt_document.specs.declared.document.Document.{Document}
use Rattle.tt_document.specs.declared.document.Plan.{Plan}
use Rattle.tt_workload.specs.declared.options.Options.{Options}
use Rattle.tt_workload.specs.declared.told_repair.ToldRepair.TheVariants.{UnderWay, ThatClosed}
use Rattle.tt_workload.specs.Printing.{reply_text}
use Rattle.tt_workload.specs.JsonReport.{json_of_repair, json_of_trial, json_of_table, json_of_closed, json_of_end}
use Rattle.tt_workload.specs.Records.{lines_of_records, lines_of_changes, lines_of_would_be_changes}
use Rattle.tt_workload.specs.CauseLines.{redone_lines_if}
use Rattle.tt_workload.specs.DiffLines.{diff_lines_if}
use Rattle.tt_workload.specs.History.{after_calls, records_of_calls, repair_entry, before_end, with_records_meanwhile, administrator, database_if, records_if}

-- the line of a repair, with what its switch answered: the generation, the slots, and how many of them were re-executed
abbrev pub repair_text : ℕ → ℕ → ℕ → List ℕ
repair_text generation slots rerun =
    codes "repair generation " ++ (decimal generation ++ (codes " slots " ++ (decimal slots ++ (codes " rerun " ++ (decimal rerun ++ codes "\n")))))

-- the same in a report, which may be JSON
abbrev pub line_of_repair : Bool → ℕ → ℕ → ℕ → List ℕ
line_of_repair json generation slots rerun =
    if json then json_of_repair generation slots rerun else repair_text generation slots rerun

-- the line of a repair whose switch has this outcome; no other event has one
abbrev pub outcome_line : Bool → Outcome → List ℕ
outcome_line json (Switched generation slots rerun) = line_of_repair json generation slots rerun
outcome_line json outcome = []

-- the line of a repair, on the database before its switch
abbrev pub repair_line : Bool → Database → List ℕ
repair_line json db = outcome_line json (outcome_for db Switch)

-- the lines of the replies that a database answers differently now
abbrev pub changed_lines : Bool → Database → List Record → List ℕ
changed_lines json db records = lines_of_changes json db.catalog records (changes_of db.catalog (state_of db) records)

-- the generation that the last switch closed
abbrev pub closed_by_switch : Database → ℕ
closed_by_switch db = (state_of db).generation - 1

-- the lines behind that of a repair, on the database after its switch: one for each slot that it re-executed and one for each row that
-- differs, where these are asked for, and between them one for each changed reply
abbrev pub lines_after_switch : Options → Database → List Record → List ℕ
lines_after_switch options db records =
    redone_lines_if options db (ThatClosed (closed_by_switch db))
    ++ (changed_lines options.json db records ++ diff_lines_if options db (ThatClosed (closed_by_switch db)))

-- the lines of a repair that switches, on the databases before its switch and after it
abbrev pub lines_of_switch : Options → Database → Database → List Record → List ℕ
lines_of_switch options before after records = repair_line options.json before ++ lines_after_switch options after records

-- the line of a repair that is tried: how many slots it would re-execute, and of how many
abbrev pub would_rerun_text : ℕ → ℕ → List ℕ
would_rerun_text rerun slots = codes "would rerun " ++ (decimal rerun ++ (codes " of " ++ (decimal slots ++ codes " slots\n")))

-- the same in a report, which may be JSON
abbrev pub line_of_trial : Bool → ℕ → ℕ → List ℕ
line_of_trial json rerun slots = if json then json_of_trial rerun slots else would_rerun_text rerun slots

-- that line on the database with every slot done
abbrev pub would_rerun_line : Bool → Database → List ℕ
would_rerun_line json db =
    let S = state_of db in
    line_of_trial json (reexecuted_of db.catalog S.phase S.slots) (now_of S)

-- the lines of the replies that the repair under way would change
abbrev pub would_change_lines : Bool → Database → List Record → List ℕ
would_change_lines json db records = lines_of_would_be_changes json db.catalog records (next_changes_of db.catalog (state_of db) records)

-- the lines of a repair that is given up, on the database before that: what they tell is that of the repair under way
abbrev pub lines_of_trial : Options → Database → List Record → List ℕ
lines_of_trial options db records =
    would_rerun_line options.json db
    ++ (redone_lines_if options db UnderWay ++ (would_change_lines options.json db records ++ diff_lines_if options db UnderWay))

-- the lines of a repair, on the database before its end: it switches, or is given up where the run is dry
abbrev pub lines_of_end : Options → ℕ → Database → List Record → List ℕ
lines_of_end options worker db records =
    if options.dry then lines_of_trial options db records
    else lines_of_switch options db (with_entry db (repair_entry worker Switch)) records

-- the lines of a repair
abbrev pub repair_lines : Options → ℕ → ℕ → List Record → Database → Plan → List ℕ
repair_lines options worker batch records db plan =
    lines_of_end options worker (before_end worker batch records db plan) (with_records_meanwhile worker batch records db plan)

-- the lines of the repair of a document, with or without one
abbrev pub repair_lines_if : Options → Document → Option Plan → List ℕ
repair_lines_if options document None = []
repair_lines_if options document (Some plan) =
    repair_lines options (administrator document) options.batch (records_of_calls document) (after_calls document) plan

-- a select of all rows of a table
abbrev pub all_rows : ℕ → Select
all_rows table = record { table = table; equals = [] }

-- the line of a table with this name and these rows
abbrev pub table_text : List ℕ → Reply → List ℕ
table_text name rows = codes "table " ++ (name ++ (codes " " ++ (reply_text rows ++ codes "\n")))

-- the same in a report, which may be JSON
abbrev pub line_of_table : Bool → List ℕ → Reply → List ℕ
line_of_table json name rows = if json then json_of_table name rows else table_text name rows

-- the line of a table: its name and all its rows now
abbrev pub table_line : Bool → State → ℕ → List ℕ → List ℕ
table_line json S table name = line_of_table json name (answer_of (all_rows table) (current_at S (now_of S)))

-- the lines of tables, from a position on
abbrev pub table_lines : Bool → State → ℕ → Tables → List ℕ
table_lines json S table [] = []
table_lines json S table (t ∷ tables) = table_line json S table t.0 ++ table_lines json S (table + 1) tables

-- the slots of a generation, and none where it can't be read
abbrev pub slots_or_none : Option Slots → Slots
slots_or_none None = []
slots_or_none (Some W) = W

-- the line of a table of a closed generation, with the generation's last time
abbrev pub closed_text : ℕ → ℕ → List ℕ → Reply → List ℕ
closed_text generation time name rows =
    codes "closed generation " ++ (decimal generation ++ (codes " time " ++ (decimal time ++ (codes " " ++ table_text name rows))))

-- the same in a report, which may be JSON
abbrev pub line_of_closed : Bool → ℕ → ℕ → List ℕ → Reply → List ℕ
line_of_closed json generation time name rows =
    if json then json_of_closed generation time name rows else closed_text generation time name rows

-- the line of a table of a closed generation with these slots: all its rows at the last time
abbrev pub closed_table_line : Bool → ℕ → Slots → ℕ → List ℕ → List ℕ
closed_table_line json generation W table name =
    line_of_closed json generation (length W) name (answer_of (all_rows table) (content_of W (length W)))

-- the lines of the tables of a closed generation, from a position on
abbrev pub closed_table_lines : Bool → ℕ → Slots → ℕ → Tables → List ℕ
closed_table_lines json generation W table [] = []
closed_table_lines json generation W table (t ∷ tables) =
    closed_table_line json generation W table t.0 ++ closed_table_lines json generation W (table + 1) tables

-- the lines of closed generations
abbrev pub closed_lines : Bool → Tables → List ClosedGeneration → List ℕ
closed_lines json tables [] = []
closed_lines json tables (c ∷ closed) = closed_table_lines json c.number c.slots 0 tables ++ closed_lines json tables closed

-- the lines of the closed generations that are kept, where these are asked for
abbrev pub closed_lines_if : Options → Database → List ℕ
closed_lines_if options db = if options.closed then closed_lines options.json db.catalog (state_of db).closed else []

-- the last line, with a generation and a time
abbrev pub end_text : ℕ → ℕ → List ℕ
end_text generation time = codes "end generation " ++ (decimal generation ++ (codes " time " ++ (decimal time ++ codes "\n")))

-- the last line of a report, which may be JSON, in a state
abbrev pub end_line : Bool → State → List ℕ
end_line json S = if json then json_of_end S.generation (now_of S) else end_text S.generation (now_of S)

-- the lines of all tables, and the last one
abbrev pub last_lines : Bool → Database → List ℕ
last_lines json db = table_lines json (state_of db) 0 db.catalog ++ end_line json (state_of db)

-- the report of a document, whose repair makes at most a batch of steps before each call: a line for each call, those of the repair,
-- those of the closed generations where these are asked for, one for each table, and the last one
abbrev pub report_of : Options → Document → List ℕ
report_of options document =
    let last = database_if options document document.repair in
    lines_of_records options.json document.catalog (records_if options.batch document document.repair)
    ++ (repair_lines_if options document document.repair ++ (closed_lines_if options last ++ last_lines options.json last))

-- the database after the calls of a document, and its repair
abbrev pub database_after : Options → Document → Database
database_after options document = database_if options document document.repair
