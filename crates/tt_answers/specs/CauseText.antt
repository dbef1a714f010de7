-- Re-executed slots as they are printed, each with its cause.
use Rattle.std.specs.Prelude.{ℕ, List, [], ◌∷◌, codes}
use Rattle.std.specs.Fmt.{signed_decimal}
use Rattle.tt_requests.specs.Numbers.{Numbering}
use Rattle.tt_values.specs.declared.row_id.RowId.{RowId}
use Rattle.tt_values.specs.Tables.{Tables}
use Rattle.tt_causes.specs.Causes.{Cause, Edited, Wrote, Names, Reads, Scans}
use Rattle.tt_grammar.specs.Quoting.{quoted}
use Rattle.tt_grammar.specs.Printing.{value_text}
use Rattle.tt_grammar.specs.JsonText.{Member, object_text}
use Rattle.tt_grammar.specs.WriteText.{table_name, column_name}
use Rattle.tt_answers.specs.declared.answer.SlotCause.{SlotCause}
use Rattle.tt_answers.specs.declared.answer.SlotCause.TheVariants as told
use Rattle.tt_answers.specs.declared.answer.CauseEntry.{CauseEntry}
use Rattle.tt_answers.specs.ToldText.{time_member}

-- a cause, as answers have it
abbrev pub slot_cause : Cause → SlotCause
slot_cause Edited = told.Edited
slot_cause (Wrote row since) = told.Wrote row since
slot_cause (Names row since) = told.Names row since
slot_cause (Reads p since) = told.Reads p.table p.column p.value since
slot_cause (Scans table since) = told.Scans table since

-- what kind of cause it is
abbrev pub because : List ℕ → Member
because kind = (codes "because", quoted kind)

-- a table, by its name
abbrev pub table_member : Tables → ℕ → Member
table_member tables table = (codes "table", quoted (table_name tables table))

-- a cause that names a row: its table, its key, and the slot that it got dirty with
abbrev pub row_cause_members : Tables → Numbering → List ℕ → RowId → ℕ → List Member
row_cause_members tables numbering kind row since =
    because kind ∷ table_member tables row.table ∷ (codes "key", signed_decimal row.key) ∷ time_member numbering (codes "since") since ∷ []

-- a cause: what it names, and the slot that this got dirty with. An edit names nothing
abbrev pub cause_members : Tables → Numbering → SlotCause → List Member
cause_members tables numbering told.Edited = because (codes "edited") ∷ []
cause_members tables numbering (told.Wrote row since) = row_cause_members tables numbering (codes "wrote") row since
cause_members tables numbering (told.Names row since) = row_cause_members tables numbering (codes "names") row since
cause_members tables numbering (told.Reads table column value since) =
    because (codes "reads")
    ∷ table_member tables table
    ∷ (codes "column", quoted (column_name tables table column))
    ∷ (codes "value", value_text value)
    ∷ time_member numbering (codes "since") since
    ∷ []
cause_members tables numbering (told.Scans table since) =
    because (codes "scans") ∷ table_member tables table ∷ time_member numbering (codes "since") since ∷ []

-- a re-executed slot, as an object: its number, and its cause
abbrev pub cause_text : Tables → Numbering → CauseEntry → List ℕ
cause_text tables numbering entry = object_text (time_member numbering (codes "slot") entry.slot ∷ cause_members tables numbering entry.cause)
