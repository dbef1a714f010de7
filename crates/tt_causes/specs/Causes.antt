-- Why a repair re-executes a slot.
use Rattle.std.specs.Prelude.{ℕ, zero, suc, pred, not, ◌&&◌, ◌==◌, Bool, true, false, List, [], length, filter_map, Option, None, Some, is_some, if◌then◌else◌}
use Rattle.std.specs.List.{find, range_with_len}
use Rattle.std.specs.Option.{option_or, option_map, option_and_then, option_map_or}
use Rattle.tt_values.specs.declared.row_id.RowId.{RowId}
use Rattle.tt_values.specs.declared.value.Value.{Value}
use Rattle.tt_values.specs.declared.value.Value.TheVariants as values
use Rattle.tt_values.specs.declared.statement.Write.{Write}
use Rattle.tt_values.specs.declared.statement.Write.TheVariants.{Insert, Update, Delete}
use Rattle.tt_values.specs.declared.action.Action.{Action}
use Rattle.tt_values.specs.Row.{key_of}
use Rattle.tt_values.specs.Tables.{Tables}
use Rattle.tt_values.specs.Content.{Content}
use Rattle.tt_values.specs.Effect.{table_of}
use Rattle.tt_values.specs.Action.{each_row_once}
use Rattle.tt_values.specs.RowWrites.{Slots, slot_after}
use Rattle.tt_parts.specs.declared.partition.Partition.{Partition}
use Rattle.tt_parts.specs.Partitions.{partitions_read}
use Rattle.tt_parts.specs.Dirty.{DirtySet, columns_in, has_row, has_partition}
use Rattle.tt_repair_laws.specs.declared.edit.Edit.{Edit}
use Rattle.tt_repair_laws.specs.Edits.{edit_of}
use Rattle.tt_repair_laws.specs.Due.{content_after, slot_rows_touched, has_dirty_key, names_dirty_row, is_write_clear, is_slot_affected, dirty_after}

-- why a slot is re-executed. All but the first name what got dirty, and the slot that it got dirty with
pub data Cause : Type 0 where
  -- the repair edits the slot
  Edited : Cause
  -- the slot touched this row
  Wrote : RowId → ℕ → Cause
  -- one of its writes inserts the key of this row, or has an equality with it
  Names : RowId → ℕ → Cause
  -- one of its writes reads this partition
  Reads : Partition → ℕ → Cause
  -- one of its writes reads all of this table
  Scans : ℕ → ℕ → Cause

-- the slot with which that got dirty which a cause names. An edit names nothing
abbrev pub since : Cause → Option ℕ
since Edited = None
since (Wrote r m) = Some m
since (Names r m) = Some m
since (Reads p m) = Some m
since (Scans table m) = Some m

-- the writes of a slot. A cancelled slot has none
abbrev pub slot_action_writes : Option Action → List Write
slot_action_writes None = []
slot_action_writes (Some action) = action.writes

-- the partitions that a write reads
abbrev pub write_reads : Tables → Write → List Partition
write_reads tables w = partitions_read (columns_in tables (table_of w)) w

-- whether what is dirty after the first m slots may affect slot n + 1
abbrev pub is_affected_after : Tables → Slots → List Edit → ℕ → ℕ → Bool
is_affected_after tables W E n m = is_slot_affected tables (dirty_after tables W E m) (slot_after W n) (content_after W n)

-- the first of the n slots before slot n + 1 after which so much is dirty that slot n + 1 may be affected
abbrev pub affected_since : Tables → Slots → List Edit → ℕ → Option ℕ
affected_since tables W E n = find (is_affected_after tables W E n) (range_with_len 1 n)

-- the first dirty row of a list, by table and then by key
abbrev pub first_dirty_row : DirtySet → List RowId → Option RowId
first_dirty_row D rs = find (λ r. has_row D r.table r.key) (each_row_once rs)

-- the row that has this value as its key
abbrev pub row_of_key : ℕ → Value → Option RowId
row_of_key table (values.Int key) = Some (record { table = table; key = key })
row_of_key table (values.Text t) = None

-- the row that a write names by its key: that which it inserts, or that of its first equality with the key of a dirty row
abbrev pub row_named_by : DirtySet → Write → Option RowId
row_named_by D (Insert table row) = Some (record { table = table; key = key_of row })
row_named_by D (Update table changes equals) = option_and_then (λ q. row_of_key table q.value) (find (has_dirty_key D table) equals)
row_named_by D (Delete table equals) = option_and_then (λ q. row_of_key table q.value) (find (has_dirty_key D table) equals)

-- the dirty row that the first of some writes names, of those that name one
abbrev pub first_row_named : DirtySet → List Write → Option RowId
first_row_named D ws = option_and_then (row_named_by D) (find (names_dirty_row D) ws)

-- whether a write reads partitions, and isn't clear
abbrev pub reads_dirty_partitions : Tables → DirtySet → Write → Bool
reads_dirty_partitions tables D w = not (is_write_clear tables D w) && not (length (write_reads tables w) == 0)

-- of the first of some writes that reads dirty partitions, the first partition that wasn't dirty before
abbrev pub first_partition_read : Tables → DirtySet → DirtySet → List Write → Option Partition
first_partition_read tables before D ws =
    option_and_then (λ w. find (λ p. not (has_partition before p)) (write_reads tables w)) (find (reads_dirty_partitions tables D) ws)

-- whether a write reads a whole table, and isn't clear
abbrev pub scans_dirty_table : Tables → DirtySet → Write → Bool
scans_dirty_table tables D w = not (is_write_clear tables D w) && (length (write_reads tables w) == 0)

-- the table of the first of some writes that reads a whole table with a dirty row
abbrev pub first_table_scanned : Tables → DirtySet → List Write → Option ℕ
first_table_scanned tables D ws = option_map table_of (find (scans_dirty_table tables D) ws)

-- the cause of a slot that what is dirty after slot m may affect, and what was dirty before slot m may not: the first of these that there is
abbrev pub cause_by : Tables → DirtySet → DirtySet → Option Action → Content → ℕ → Option Cause
cause_by tables before D s X m =
    let ws = slot_action_writes s in
    option_or (option_map (λ r. Wrote r m) (first_dirty_row D (slot_rows_touched s X)))
    (option_or (option_map (λ r. Names r m) (first_row_named D ws))
    (option_or (option_map (λ p. Reads p m) (first_partition_read tables before D ws))
    (option_map (λ table. Scans table m) (first_table_scanned tables D ws))))

-- the cause of slot n + 1 since slot m
abbrev pub cause_since : Tables → Slots → List Edit → ℕ → ℕ → Option Cause
cause_since tables W E n m = cause_by tables (dirty_after tables W E (pred m)) (dirty_after tables W E m) (slot_after W n) (content_after W n) m

-- the cause of slot n + 1, if it is re-executed: it is edited, or so much got dirty with a slot before it that it may be affected
abbrev pub cause : Tables → Slots → List Edit → ℕ → Option Cause
cause tables W E n =
    if is_some (edit_of E (suc n)) then Some Edited
    else option_and_then (cause_since tables W E n) (affected_since tables W E n)

-- the slots among the first n that are re-executed, each with its cause
abbrev pub causes : Tables → Slots → List Edit → ℕ → List (ℕ × Cause)
causes tables W E n = filter_map (λ i. option_map (λ c. (suc i, c)) (cause tables W E i)) (range_with_len 0 n)

-- whether a chain of causes ends at an edit after at most so many steps, where each cause is followed by that of the slot since which it holds
abbrev pub leads_to_edit : Tables → Slots → List Edit → ℕ → Option Cause → Bool
leads_to_edit tables W E steps None = false
leads_to_edit tables W E zero (Some c) = not (is_some (since c))
leads_to_edit tables W E (suc steps) (Some c) = option_map_or (λ m. leads_to_edit tables W E steps (cause tables W E (pred m))) (since c) true
