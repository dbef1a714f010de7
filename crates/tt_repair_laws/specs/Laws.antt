-- What holds of all repairs: of all tables, slots and edits.
use Rattle.std.specs.Prelude.{◌≡◌, ℕ, suc, ◌<◌, ◌≤◌, ℤ, Bool, true, false, ◌&&◌, ◌||◌, List, [], ◌∷◌, ◌++◌, length, None, Some, IsTrue}
use Rattle.std.specs.List.{list_all}
use Rattle.tt_values.specs.declared.row.Row.{Row}
use Rattle.tt_values.specs.declared.statement.Write.{Write}
use Rattle.tt_values.specs.declared.action.Action.{Action}
use Rattle.tt_values.specs.Tables.{Tables}
use Rattle.tt_values.specs.Content.{Content, content_at, row_at}
use Rattle.tt_values.specs.Action.{content_after_write, has_no_effect}
use Rattle.tt_values.specs.RowWrites.{Slots, slot_after, slot_writes, slot_replies, row_writes}
use Rattle.tt_parts.specs.Partitions.{parts_of}
use Rattle.tt_parts.specs.Dirty.{columns_in, DirtySet, has_row, has_partition}
use Rattle.tt_repair_laws.specs.declared.edit.Edit.{Edit}
use Rattle.tt_repair_laws.specs.Edits.{edit_of, slot_with_edit, edited_slots}
use Rattle.tt_repair_laws.specs.Due.{content_after, slot_rows_written, slot_rows_touched, is_write_affected, may_read_dirty, is_affected, is_due, dirty_after, reexecuted_count}

-- an action is affected exactly where its first write is, or the others are on the content that this write leaves. Where the first write of a whole action has no effect, all that counts of the others is whether one of them names a dirty row or isn't clear
abbrev pub ActionsAreAffectedByTheirWrites : Type 0
ActionsAreAffectedByTheirWrites = (tables : Tables) (D : DirtySet) (whole : Bool) (X : Content) →
    let of : List Write → Action = λ ws. record { writes = ws; whole = whole } in
    (is_affected tables D (of []) X ≡ false)
    × ((w : Write) (ws : List Write) → (whole && has_no_effect w X) ≡ false →
    is_affected tables D (of (w ∷ ws)) X ≡ (is_write_affected tables D w X || is_affected tables D (of ws) (content_after_write w X)))
    × ((w : Write) (ws : List Write) → (whole && has_no_effect w X) ≡ true →
    is_affected tables D (of (w ∷ ws)) X ≡ (is_write_affected tables D w X || may_read_dirty tables D ws))

-- slot n + 1 is the same in two lists of slots, and after the slots before it in each it has the same row writes and the same replies, and writes and touches the same rows in the same order
pub record IsSameSlot (W V : Slots) (n : ℕ) : Type 0 where
  pub slot : slot_after V n ≡ slot_after W n
  pub writes : slot_writes (suc n) (slot_after V n) (content_after V n) ≡ slot_writes (suc n) (slot_after W n) (content_after W n)
  pub replies : slot_replies (slot_after V n) (content_after V n) ≡ slot_replies (slot_after W n) (content_after W n)
  pub rows : slot_rows_written (slot_after V n) (content_after V n) ≡ slot_rows_written (slot_after W n) (content_after W n)
  pub touched : slot_rows_touched (slot_after V n) (content_after V n) ≡ slot_rows_touched (slot_after W n) (content_after W n)

-- a slot that isn't due is the same among the edited slots, with the same row writes and the same replies, and writes and touches the same rows in the same order
abbrev pub NoAffectedSlotIsMissed : Type 0
NoAffectedSlotIsMissed = (tables : Tables) (W : Slots) (E : List Edit) (n : ℕ) → is_due tables W E n ≡ false → IsSameSlot W (edited_slots W E) n

-- a row that isn't dirty after the first n slots is the same at each time up to n, by the slots and by the edited slots
abbrev pub CleanRowsAgree : Type 0
CleanRowsAgree = (tables : Tables) (W : Slots) (E : List Edit) (n time table : ℕ) (key : ℤ) → time ≤ n → has_row (dirty_after tables W E n) table key ≡ false →
    row_at (content_at (row_writes (edited_slots W E) n) time table) key ≡ row_at (content_at (row_writes W n) time table) key

-- the partitions in which a dirty row lies after the first n edited slots are dirty
abbrev pub DirtyRowsLieInDirtyPartitions : Type 0
DirtyRowsLieInDirtyPartitions = (tables : Tables) (W : Slots) (E : List Edit) (n table : ℕ) (key : ℤ) (row : Row) → let D = dirty_after tables W E n in
    has_row D table key ≡ true → row_at (content_after (edited_slots W E) n table) key ≡ Some row → IsTrue (list_all (has_partition D) (parts_of table (columns_in tables table) row))

-- up to slot n, two lists of slots have the same edited slots, due slots and dirty set
pub record IsSameRepair (tables : Tables) (W V : Slots) (E : List Edit) (n : ℕ) : Type 0 where
  pub dirty : dirty_after tables V E n ≡ dirty_after tables W E n
  pub due : (i : ℕ) → i < n → is_due tables V E i ≡ is_due tables W E i
  pub reexecuted : reexecuted_count tables V E n ≡ reexecuted_count tables W E n
  pub slots : (i : ℕ) → i < n → slot_after (edited_slots V E) i ≡ slot_after (edited_slots W E) i
  pub writes : row_writes (edited_slots V E) n ≡ row_writes (edited_slots W E) n

-- slots that are added during a repair change nothing of the repair so far
abbrev pub LaterSlotsChangeNoRepair : Type 0
LaterSlotsChangeNoRepair = (tables : Tables) (W X : Slots) (E : List Edit) (n : ℕ) → n ≤ length W → IsSameRepair tables W (W ++ X) E n

-- there are as many edited slots as slots
abbrev pub EditedSlotsAreAsMany : Type 0
EditedSlotsAreAsMany = (W : Slots) (E : List Edit) → length (edited_slots W E) ≡ length W

-- an edited slot is the slot with its edit
abbrev pub EditedSlotIsNext : Type 0
EditedSlotIsNext = (W : Slots) (E : List Edit) (n : ℕ) → n < length W →
    slot_after (edited_slots W E) n ≡ slot_with_edit (edit_of E (suc n)) (slot_after W n)

-- a slot without an edit stays the same
abbrev pub UneditedSlotsStay : Type 0
UneditedSlotsStay = (W : Slots) (E : List Edit) (n : ℕ) → edit_of E (suc n) ≡ None → slot_after (edited_slots W E) n ≡ slot_after W n

-- slots that are added, and have no edit, stay the same, behind the edited slots
abbrev pub LaterSlotsStay : Type 0
LaterSlotsStay = (W X : Slots) (E : List Edit) → ((t : ℕ) → length W < t → edit_of E t ≡ None) → edited_slots (W ++ X) E ≡ edited_slots W E ++ X
