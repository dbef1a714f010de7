-- The next side of the tables during a repair, and at its end.
use Rattle.std.specs.Prelude.{◌≡◌, ℕ, suc, ◌≤◌, nat_le, ℤ, true, false, List, [], ◌∷◌, ◌++◌, length, Option, if◌then◌else◌}
use Rattle.tt_values.specs.declared.action.Action.{Action}
use Rattle.tt_values.specs.Tables.{Tables}
use Rattle.tt_values.specs.Content.{row_at}
use Rattle.tt_values.specs.RowWrites.{Slots, row_writes}
use Rattle.tt_versions.specs.Sides.{RowsOverTime}
use Rattle.tt_versions.specs.RowsByWrites.{rows_by}
use Rattle.tt_parts.specs.Dirty.{has_row, is_row_in}
use Rattle.tt_repair_laws.specs.declared.edit.Edit.{Edit}
use Rattle.tt_repair_laws.specs.Edits.{edited_slots}
use Rattle.tt_repair_laws.specs.Due.{content_after, is_due, dirty_after, rows_reexecuted}

-- the current side of a table
abbrev pub current_side : Slots → ℕ → RowsOverTime
current_side W table = rows_by table (row_writes W (length W))

-- the rows of a table over time, by the first n edited slots
abbrev pub edited_side : Slots → List Edit → ℕ → ℕ → RowsOverTime
edited_side W E n table = rows_by table (row_writes (edited_slots W E) n)

-- the next side of a table after a repair has done n slots: a dirty row is as the first n edited slots leave it, any other row as on the current side
abbrev pub next_side : Tables → Slots → List Edit → ℕ → ℕ → RowsOverTime
next_side tables W E n table key = if has_row (dirty_after tables W E n) table key then edited_side W E n table key else current_side W table key

-- after the last of the first n slots each row stays the same
abbrev pub LastRowsStay : Type 0
LastRowsStay = (W : Slots) (n table : ℕ) (key : ℤ) (time : ℕ) → n ≤ time →
    rows_by table (row_writes W n) key time ≡ row_at (content_after W n table) key

-- after the last of the first n edited slots each row stays the same
abbrev pub LastEditedRowsStay : Type 0
LastEditedRowsStay = (W : Slots) (E : List Edit) (n table : ℕ) (key : ℤ) (time : ℕ) → n ≤ time →
    edited_side W E n table key time ≡ row_at (content_after (edited_slots W E) n table) key

-- a dirty row is on the next side as the first n edited slots leave it
abbrev pub DirtyRowsAreAsEdited : Type 0
DirtyRowsAreAsEdited = (tables : Tables) (W : Slots) (E : List Edit) (n table : ℕ) (key : ℤ) →
    has_row (dirty_after tables W E n) table key ≡ true → next_side tables W E n table key ≡ edited_side W E n table key

-- a row that isn't dirty is on the next side as on the current side
abbrev pub CleanRowsAreAsCurrent : Type 0
CleanRowsAreAsCurrent = (tables : Tables) (W : Slots) (E : List Edit) (n table : ℕ) (key : ℤ) →
    has_row (dirty_after tables W E n) table key ≡ false → next_side tables W E n table key ≡ current_side W table key

-- at first the next side is the current side
abbrev pub NextSideBeginsAsCurrent : Type 0
NextSideBeginsAsCurrent = (tables : Tables) (W : Slots) (E : List Edit) (table : ℕ) → next_side tables W E 0 table ≡ current_side W table

-- after n slots the next side shows the first n edited slots, at each time up to n
abbrev pub NextSideShowsEditedSlots : Type 0
NextSideShowsEditedSlots = (tables : Tables) (W : Slots) (E : List Edit) (n time table : ℕ) (key : ℤ) → n ≤ length W → time ≤ n →
    next_side tables W E n table key time ≡ edited_side W E n table key time

-- a slot that isn't due leaves the next side as it is
abbrev pub UndueSlotsLeaveNextSide : Type 0
UndueSlotsLeaveNextSide = (tables : Tables) (W : Slots) (E : List Edit) (n table : ℕ) → is_due tables W E n ≡ false →
    next_side tables W E (suc n) table ≡ next_side tables W E n table

-- a slot that is due changes only the re-executed rows of the next side: from its time on, each is as the edited slots leave it
abbrev pub DueSlotsChangeReexecutedRows : Type 0
DueSlotsChangeReexecutedRows = (tables : Tables) (W : Slots) (E : List Edit) (n table : ℕ) (key : ℤ) (time : ℕ) → n ≤ length W → is_due tables W E n ≡ true →
    let before = next_side tables W E n table key time in
    next_side tables W E (suc n) table key time ≡
    (if is_row_in (rows_reexecuted W E n) table key then (if nat_le (suc n) time then row_at (content_after (edited_slots W E) (suc n) table) key else before) else before)

-- a slot that is added during the repair leaves the dirty rows of the next side as they are; any other row is as on the current side
abbrev pub LaterSlotsLeaveDirtyRows : Type 0
LaterSlotsLeaveDirtyRows = (tables : Tables) (W : Slots) (s : Option Action) (E : List Edit) (n table : ℕ) (key : ℤ) → n ≤ length W →
    let V = W ++ s ∷ [] in
    next_side tables V E n table key ≡ (if has_row (dirty_after tables W E n) table key then next_side tables W E n table key else current_side V table key)

-- after all slots the next side shows the edited slots, at each time
abbrev pub NextSideEndsAsEditedSlots : Type 0
NextSideEndsAsEditedSlots = (tables : Tables) (W : Slots) (E : List Edit) (table : ℕ) → next_side tables W E (length W) table ≡ edited_side W E (length W) table
