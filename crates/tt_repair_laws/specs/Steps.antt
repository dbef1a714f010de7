-- One slot of a repair: when it is due, what gets dirty with it, and which rows it changes.
use Rattle.std.specs.Prelude.{◌≡◌, ℕ, suc, ◌≤◌, ℤ, true, false, ◌||◌, List, fold, length, Option}
use Rattle.tt_values.specs.declared.row_id.RowId.{RowId}
use Rattle.tt_values.specs.declared.statement.Equal.{Equal}
use Rattle.tt_values.specs.declared.statement.Change.{Change}
use Rattle.tt_values.specs.declared.statement.Write.{Write}
use Rattle.tt_values.specs.declared.statement.Write.TheVariants.{Update, Delete}
use Rattle.tt_values.specs.declared.action.Action.{Action}
use Rattle.tt_values.specs.Tables.{Tables}
use Rattle.tt_values.specs.Content.{Content, row_at}
use Rattle.tt_values.specs.Action.{rows_of_write}
use Rattle.tt_values.specs.RowWrites.{Slots, slot_after, content_of}
use Rattle.tt_parts.specs.Dirty.{DirtySet, SameMembers, nothing_dirty, has_row, is_row_in}
use Rattle.tt_repair_laws.specs.declared.edit.Edit.{Edit}
use Rattle.tt_repair_laws.specs.Edits.{edited_slots}
use Rattle.tt_repair_laws.specs.Due.{content_after, rows_matched, slot_rows_written, slot_rows_touched, slot_rows_matched, with_row_of, is_due_by, is_due, rows_reexecuted, dirty_after, reexecuted_count}

-- whether a slot is due depends only on the members of the dirty set
abbrev pub DueDependsOnMembers : Type 0
DueDependsOnMembers = (tables : Tables) (W : Slots) (E : List Edit) (n : ℕ) (C D : DirtySet) → SameMembers C D →
    is_due_by tables W E n C ≡ is_due_by tables W E n D

-- sets with the same members have the same members after the same rows get dirty in both
abbrev pub DirtyRowsDependOnMembers : Type 0
DirtyRowsDependOnMembers = (tables : Tables) (X Y : Content) (rs : List RowId) (C D : DirtySet) → SameMembers C D →
    SameMembers (fold (with_row_of tables X Y) C rs) (fold (with_row_of tables X Y) D rs)

-- after rows get dirty, these rows are dirty and those that were before, and no others
abbrev pub DirtyRowsGrow : Type 0
DirtyRowsGrow = (tables : Tables) (X Y : Content) (rs : List RowId) (D : DirtySet) (table : ℕ) (key : ℤ) →
    has_row (fold (with_row_of tables X Y) D rs) table key ≡ (is_row_in rs table key || has_row D table key)

-- at first nothing is dirty
abbrev pub NothingIsDirtyAtFirst : Type 0
NothingIsDirtyAtFirst = (tables : Tables) (W : Slots) (E : List Edit) → dirty_after tables W E 0 ≡ nothing_dirty

-- nothing gets dirty with a slot that isn't due
abbrev pub UndueSlotsDirtyNothing : Type 0
UndueSlotsDirtyNothing = (tables : Tables) (W : Slots) (E : List Edit) (n : ℕ) → is_due tables W E n ≡ false →
    dirty_after tables W E (suc n) ≡ dirty_after tables W E n

-- with a slot that is due the re-executed rows get dirty, one after another
abbrev pub DueSlotsDirtyReexecutedRows : Type 0
DueSlotsDirtyReexecutedRows = (tables : Tables) (W : Slots) (E : List Edit) (n : ℕ) → is_due tables W E n ≡ true →
    let X = content_after (edited_slots W E) n in
    let Y = content_after (edited_slots W E) (suc n) in
    dirty_after tables W E (suc n) ≡ fold (with_row_of tables X Y) (dirty_after tables W E n) (rows_reexecuted W E n)

-- at first no slot is re-executed
abbrev pub NoSlotIsReexecutedAtFirst : Type 0
NoSlotIsReexecutedAtFirst = (tables : Tables) (W : Slots) (E : List Edit) → reexecuted_count tables W E 0 ≡ 0

-- a slot that is due adds one to the slots that are re-executed
abbrev pub DueSlotsAreReexecuted : Type 0
DueSlotsAreReexecuted = (tables : Tables) (W : Slots) (E : List Edit) (n : ℕ) → is_due tables W E n ≡ true →
    reexecuted_count tables W E (suc n) ≡ suc (reexecuted_count tables W E n)

-- a slot that isn't due adds none
abbrev pub UndueSlotsAreNotReexecuted : Type 0
UndueSlotsAreNotReexecuted = (tables : Tables) (W : Slots) (E : List Edit) (n : ℕ) → is_due tables W E n ≡ false →
    reexecuted_count tables W E (suc n) ≡ reexecuted_count tables W E n

-- a slot leaves each row as it is that it doesn't write
abbrev pub UnwrittenRowsStay : Type 0
UnwrittenRowsStay = (W : Slots) (n table : ℕ) (key : ℤ) →
    is_row_in (slot_rows_written (slot_after W n) (content_after W n)) table key ≡ false →
    row_at (content_after W (suc n) table) key ≡ row_at (content_after W n table) key

-- a slot leaves each row as it is that it doesn't touch
abbrev pub UntouchedRowsStay : Type 0
UntouchedRowsStay = (W : Slots) (n table : ℕ) (key : ℤ) →
    is_row_in (slot_rows_touched (slot_after W n) (content_after W n)) table key ≡ false →
    row_at (content_after W (suc n) table) key ≡ row_at (content_after W n table) key

-- a slot touches each row that it writes, and its writes match each row that it touches
abbrev pub WrittenRowsAreTouched : Type 0
WrittenRowsAreTouched = (s : Option Action) (X : Content) (table : ℕ) (key : ℤ) →
    (is_row_in (slot_rows_written s X) table key ≡ true → is_row_in (slot_rows_touched s X) table key ≡ true)
    × (is_row_in (slot_rows_touched s X) table key ≡ true → is_row_in (slot_rows_matched s X) table key ≡ true)

-- a write matches each row that it writes
abbrev pub WrittenRowsAreMatched : Type 0
WrittenRowsAreMatched = (w : Write) (X : Content) (table : ℕ) (key : ℤ) →
    is_row_in (rows_of_write w X) table key ≡ true → is_row_in (rows_matched w X) table key ≡ true

-- an update and a delete write the rows that they match, and no others
abbrev pub UpdatesAndDeletesWriteWhatTheyMatch : Type 0
UpdatesAndDeletesWriteWhatTheyMatch = (table : ℕ) (changes : List Change) (equals : List Equal) (X : Content) →
    (rows_matched (Update table changes equals) X ≡ rows_of_write (Update table changes equals) X)
    × (rows_matched (Delete table equals) X ≡ rows_of_write (Delete table equals) X)

-- the content after the first n slots is that of all slots at time n
abbrev pub ContentAfterIsKept : Type 0
ContentAfterIsKept = (W : Slots) (n : ℕ) → n ≤ length W → content_of W n ≡ content_after W n
