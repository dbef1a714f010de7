-- The slots that a repair re-executes, and what is dirty after each slot.
use Rattle.std.specs.Prelude.{ℕ, zero, suc, Bool, false, not, ◌&&◌, ◌||◌, ◌==◌, List, [], ◌∷◌, ◌++◌, map, fold, Option, None, Some, is_some, if◌then◌else◌}
use Rattle.std.specs.List.{list_any}
use Rattle.tt_values.specs.declared.row_id.RowId.{RowId}
use Rattle.tt_values.specs.declared.value.Value.{Value}
use Rattle.tt_values.specs.declared.value.Value.TheVariants as values
use Rattle.tt_values.specs.declared.statement.Equal.{Equal}
use Rattle.tt_values.specs.declared.statement.Write.{Write}
use Rattle.tt_values.specs.declared.statement.Write.TheVariants.{Insert, Update, Delete}
use Rattle.tt_values.specs.declared.action.Action.{Action}
use Rattle.tt_values.specs.Row.{key_of}
use Rattle.tt_values.specs.Matches.{equates}
use Rattle.tt_values.specs.Tables.{Tables}
use Rattle.tt_values.specs.Content.{Content, content_at, row_at}
use Rattle.tt_values.specs.Effect.{matching_rows, table_of}
use Rattle.tt_values.specs.Action.{content_after_write, rows_of_write, tried, kept, rows_of_writes, rows_touched}
use Rattle.tt_values.specs.RowWrites.{Slots, slot_after, row_writes}
use Rattle.tt_parts.specs.Partitions.{partitions_read}
use Rattle.tt_parts.specs.Dirty.{DirtySet, nothing_dirty, columns_in, has_row, with_row, is_clear}
use Rattle.tt_repair_laws.specs.declared.edit.Edit.{Edit}
use Rattle.tt_repair_laws.specs.Edits.{edit_of, edited_slots}

-- the content after the first n slots
abbrev pub content_after : Slots → ℕ → Content
content_after W n = content_at (row_writes W n) n

-- the rows that a write matches in a content. An insert matches the row of its key, whether it is there or not
abbrev pub rows_matched : Write → Content → List RowId
rows_matched (Insert table row) X = record { table = table; key = key_of row } ∷ []
rows_matched (Update table changes equals) X = map (λ e. record { table = table; key = e.0 }) (matching_rows equals (X table))
rows_matched (Delete table equals) X = map (λ e. record { table = table; key = e.0 }) (matching_rows equals (X table))

-- whether a value is the key of a dirty row of a table
abbrev pub is_dirty_key : DirtySet → ℕ → Value → Bool
is_dirty_key D table (values.Int key) = has_row D table key
is_dirty_key D table (values.Text t) = false

-- whether a condition is an equality on the first column, with the key of a dirty row
abbrev pub has_dirty_key : DirtySet → ℕ → Equal → Bool
has_dirty_key D table q = equates q && (q.column == 0) && is_dirty_key D table q.value

-- whether a write names a dirty row by its key: it inserts that key, or has an equality with it
abbrev pub names_dirty_row : DirtySet → Write → Bool
names_dirty_row D (Insert table row) = has_row D table (key_of row)
names_dirty_row D (Update table changes equals) = list_any (has_dirty_key D table) equals
names_dirty_row D (Delete table equals) = list_any (has_dirty_key D table) equals

-- whether a write is clear, by the partitions that it reads
abbrev pub is_write_clear : Tables → DirtySet → Write → Bool
is_write_clear tables D w = is_clear D (table_of w) (partitions_read (columns_in tables (table_of w)) w)

-- whether what is dirty may affect a write: the write writes a dirty row, names one, or isn't clear
abbrev pub is_write_affected : Tables → DirtySet → Write → Content → Bool
is_write_affected tables D w X =
    list_any (λ r. has_row D r.table r.key) (rows_of_write w X)
    || names_dirty_row D w
    || not (is_write_clear tables D w)

-- the rows that some writes match, each on the content that the ones before it left
abbrev pub rows_matched_by : List Write → Content → List RowId
rows_matched_by [] X = []
rows_matched_by (w ∷ ws) X = rows_matched w X ++ rows_matched_by ws (content_after_write w X)

-- whether one of some writes names a dirty row or isn't clear
abbrev pub may_read_dirty : Tables → DirtySet → List Write → Bool
may_read_dirty tables D ws = list_any (names_dirty_row D) ws || list_any (λ w. not (is_write_clear tables D w)) ws

-- whether what is dirty may affect an action: it touches a dirty row, or one of its writes names one or isn't clear, of those that aren't carried out too
abbrev pub is_affected : Tables → DirtySet → Action → Content → Bool
is_affected tables D action X = list_any (λ r. has_row D r.table r.key) (rows_touched action X) || may_read_dirty tables D action.writes

-- the rows that a slot writes, those that it touches, those that its writes match as far as they are carried out, and whether it is affected. A cancelled slot writes, touches and matches nothing, and isn't affected
abbrev pub slot_rows_written : Option Action → Content → List RowId
slot_rows_written None X = []
slot_rows_written (Some action) X = rows_of_writes (kept action X) X

abbrev pub slot_rows_touched : Option Action → Content → List RowId
slot_rows_touched None X = []
slot_rows_touched (Some action) X = rows_touched action X

abbrev pub slot_rows_matched : Option Action → Content → List RowId
slot_rows_matched None X = []
slot_rows_matched (Some action) X = rows_matched_by (tried action X) X

abbrev pub is_slot_affected : Tables → DirtySet → Option Action → Content → Bool
is_slot_affected tables D None X = false
is_slot_affected tables D (Some action) X = is_affected tables D action X

-- the set after a row gets dirty, with what it is in the contents before and after
abbrev pub with_row_of : Tables → Content → Content → DirtySet → RowId → DirtySet
with_row_of tables before after D r = with_row D r.table (columns_in tables r.table) r.key (row_at (before r.table) r.key) (row_at (after r.table) r.key)

-- whether slot n + 1 is due, by what is dirty before it: it has an edit, or may be affected
abbrev pub is_due_by : Tables → Slots → List Edit → ℕ → DirtySet → Bool
is_due_by tables W E n D = is_some (edit_of E (suc n)) || is_slot_affected tables D (slot_after W n) (content_after W n)

-- the rows that get dirty where slot n + 1 is re-executed: those that it touched, and those that its edited action matches after the first n edited slots
abbrev pub rows_reexecuted : Slots → List Edit → ℕ → List RowId
rows_reexecuted W E n =
    slot_rows_touched (slot_after W n) (content_after W n)
    ++ slot_rows_matched (slot_after (edited_slots W E) n) (content_after (edited_slots W E) n)

-- what is dirty after slot n + 1, by what is dirty before it: if the slot is due, the re-executed rows too
abbrev pub dirty_after_slot : Tables → Slots → List Edit → ℕ → DirtySet → DirtySet
dirty_after_slot tables W E n D =
    if is_due_by tables W E n D then fold (with_row_of tables (content_after (edited_slots W E) n) (content_after (edited_slots W E) (suc n))) D (rows_reexecuted W E n)
    else D

-- what is dirty after the first n slots
unfoldable pub dirty_after : Tables → Slots → List Edit → ℕ → DirtySet
dirty_after tables W E zero = nothing_dirty
dirty_after tables W E (suc n) = dirty_after_slot tables W E n (dirty_after tables W E n)

-- whether slot n + 1 is due: a repair re-executes it
abbrev pub is_due : Tables → Slots → List Edit → ℕ → Bool
is_due tables W E n = is_due_by tables W E n (dirty_after tables W E n)

-- how many of the first n slots are due
unfoldable pub reexecuted_count : Tables → Slots → List Edit → ℕ → ℕ
reexecuted_count tables W E zero = 0
reexecuted_count tables W E (suc n) = if is_due tables W E n then suc (reexecuted_count tables W E n) else reexecuted_count tables W E n
