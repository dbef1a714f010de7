-- What holds of all causes and differences.
use Rattle.std.specs.Prelude.{◌≡◌, ℕ, pred, ◌<◌, ◌≤◌, ℤ, Bool, true, false, List, ◌++◌, length, suc, Some, is_some, IsTrue, ⊤, if◌then◌else◌}
use Rattle.std.specs.List.{list_all}
use Rattle.tt_values.specs.Tables.{Tables}
use Rattle.tt_values.specs.RowWrites.{Slots, slot_after, content_of}
use Rattle.tt_parts.specs.declared.partition.Partition.{Partition}
use Rattle.tt_parts.specs.Dirty.{DirtySet, DirtySince, has_row, has_row_of, has_partition}
use Rattle.tt_repair_laws.specs.declared.edit.Edit.{Edit}
use Rattle.tt_repair_laws.specs.Edits.{edit_of, edited_slots}
use Rattle.tt_repair_laws.specs.Due.{content_after, slot_rows_touched, is_due, dirty_after, reexecuted_count}
use Rattle.tt_causes.specs.Causes.{Cause, Edited, Wrote, Names, Reads, Scans, slot_action_writes, cause, causes, leads_to_edit}
use Rattle.tt_causes.specs.Numbers.{TellsSince, cause_by_numbers}
use Rattle.tt_causes.specs.Differences.{with_row_changes, differences}

-- a row and a partition that are dirty after the first m slots stay dirty
abbrev pub WhatIsDirtyStaysDirty : Type 0
WhatIsDirtyStaysDirty = (tables : Tables) (W : Slots) (E : List Edit) (m n : ℕ) → m ≤ n →
    let D = dirty_after tables W E m in
    let C = dirty_after tables W E n in
    ((table : ℕ) (key : ℤ) → has_row D table key ≡ true → has_row C table key ≡ true)
    × ((table : ℕ) → has_row_of D table ≡ true → has_row_of C table ≡ true)
    × ((p : Partition) → has_partition D p ≡ true → has_partition C p ≡ true)

-- a slot has a cause exactly where it is due
abbrev pub DueSlotsHaveCause : Type 0
DueSlotsHaveCause = (tables : Tables) (W : Slots) (E : List Edit) (n : ℕ) → is_some (cause tables W E n) ≡ is_due tables W E n

-- there are as many slots with a cause as are re-executed
abbrev pub CausesAreAsMany : Type 0
CausesAreAsMany = (tables : Tables) (W : Slots) (E : List Edit) (n : ℕ) → length (causes tables W E n) ≡ reexecuted_count tables W E n

-- something got dirty with slot m: it is dirty after that slot and wasn't before it. The slot is one of the first n, and due
pub record GotDirtyWith (tables : Tables) (W : Slots) (E : List Edit) (n m : ℕ) (is_dirty : DirtySet → Bool) : Type 0 where
  pub first : 0 < m
  pub last : m ≤ n
  pub due : is_due tables W E (pred m) ≡ true
  pub after : is_dirty (dirty_after tables W E m) ≡ true
  pub before : is_dirty (dirty_after tables W E (pred m)) ≡ false

-- what a cause of slot n + 1 names got dirty with the slot since which it holds
abbrev pub NamesWhatGotDirty : Tables → Slots → List Edit → ℕ → Cause → Type 0
NamesWhatGotDirty tables W E n Edited = ⊤
NamesWhatGotDirty tables W E n (Wrote r m) = GotDirtyWith tables W E n m (λ D. has_row D r.table r.key)
NamesWhatGotDirty tables W E n (Names r m) = GotDirtyWith tables W E n m (λ D. has_row D r.table r.key)
NamesWhatGotDirty tables W E n (Reads p m) = GotDirtyWith tables W E n m (λ D. has_partition D p)
NamesWhatGotDirty tables W E n (Scans table m) = GotDirtyWith tables W E n m (λ D. has_row_of D table)

abbrev pub CausesNameWhatGotDirty : Type 0
CausesNameWhatGotDirty = (tables : Tables) (W : Slots) (E : List Edit) (n : ℕ) (c : Cause) → cause tables W E n ≡ Some c → NamesWhatGotDirty tables W E n c

-- each slot that is re-executed is so by a chain of causes that ends at an edit, after at most as many steps as there are slots before it
abbrev pub CausesLeadToAnEdit : Type 0
CausesLeadToAnEdit = (tables : Tables) (W : Slots) (E : List Edit) (n : ℕ) → is_due tables W E n ≡ true → IsTrue (leads_to_edit tables W E n (cause tables W E n))

-- slots that are added during a repair change no cause
abbrev pub LaterSlotsChangeNoCause : Type 0
LaterSlotsChangeNoCause = (tables : Tables) (W X : Slots) (E : List Edit) (n : ℕ) → n < length W → cause tables (W ++ X) E n ≡ cause tables W E n

-- a row that differs is dirty
abbrev pub DifferentRowsAreDirty : Type 0
DifferentRowsAreDirty = (tables : Tables) (W : Slots) (E : List Edit) (n table : ℕ) → IsTrue (list_all (λ c. has_row (dirty_after tables W E n) table c.key) (differences W E n table))

-- with what differs after the first n slots, a table is as the first n edited slots leave it
abbrev pub DifferencesLeadToEditedContent : Type 0
DifferencesLeadToEditedContent = (W : Slots) (E : List Edit) (n table : ℕ) →
    with_row_changes (content_after W n table) (differences W E n table) ≡ content_after (edited_slots W E) n table

-- after all slots that is the table right after the switch
abbrev pub DifferencesLeadToSwitch : Type 0
DifferencesLeadToSwitch = (W : Slots) (E : List Edit) (table : ℕ) → let n = length W in
    with_row_changes (content_after W n table) (differences W E n table) ≡ content_of (edited_slots W E) n table

-- the cause of one of the slots that a repair has done is found by the numbers of what is dirty after these slots
abbrev pub CausesAreFoundByNumbers : Type 0
CausesAreFoundByNumbers = (tables : Tables) (W : Slots) (E : List Edit) (done : ℕ) (since : DirtySince) (n : ℕ) → n ≤ done → TellsSince tables W E done since →
    cause tables W E n ≡ (if is_some (edit_of E (suc n)) then Some Edited else cause_by_numbers tables since (slot_rows_touched (slot_after W n) (content_after W n)) (slot_action_writes (slot_after W n)) n)
