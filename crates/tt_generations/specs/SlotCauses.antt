-- Why a repair re-executed a slot, as calls tell it.
use Rattle.std.specs.Prelude.{ℕ, zero, suc, ◌+◌, ◌-◌, nat_lt, List, [], ◌∷◌, Option, None, Some, is_some, if◌then◌else◌}
use Rattle.std.specs.List.{find, range_with_len}
use Rattle.std.specs.Ordering.{is_lt}
use Rattle.tt_values.specs.declared.row_id.RowId.{RowId}
use Rattle.tt_values.specs.Action.{row_id_cmp}
use Rattle.tt_values.specs.Tables.{Tables}
use Rattle.tt_values.specs.RowWrites.{Slots}
use Rattle.tt_causes.specs.Numbers.{later}
use Rattle.tt_causes.specs.Causes.{Cause, Edited, Wrote, Names, Reads, Scans, cause}
use Rattle.tt_generations.specs.declared.cause.Cause.{Cause as ToldCause}
use Rattle.tt_generations.specs.declared.cause.Cause.TheVariants as told
use Rattle.tt_generations.specs.TwoGenerations.{Phase, Idle, Repairing}

-- the greatest number of some items, if each has one. 0 where there are no items
abbrev pub latest_of : {X : Type 0} → (X → Option ℕ) → List X → Option ℕ
latest_of number [] = Some 0
latest_of number (x ∷ xs) = later (number x) (latest_of number xs)

-- the lesser of a row and another, if there is another, by table and then by key
abbrev pub lesser_row : RowId → Option RowId → RowId
lesser_row r None = r
lesser_row r (Some s) = if is_lt (row_id_cmp r s) then r else s

-- the cause that is told
abbrev pub cause_told : ToldCause → Cause
cause_told told.Edited = Edited
cause_told (told.Wrote table key since) = Wrote (record { table = table; key = key }) since
cause_told (told.Names table key since) = Names (record { table = table; key = key }) since
cause_told (told.Reads table column value since) = Reads (record { table = table; column = column; value = value.now }) since
cause_told (told.Scans table since) = Scans table since

-- of the slots that the repair has done, the cause of the one of a number, counted from 1, if it was re-executed
abbrev pub cause_at : Tables → Phase → Slots → ℕ → Option Cause
cause_at tables Idle W number = None
cause_at tables (Repairing edits n) W zero = None
cause_at tables (Repairing edits n) W (suc i) = if nat_lt i n then cause tables W edits i else None

-- of the slots that the repair has done, the number of the first one behind a number that it re-executed
abbrev pub next_redone_at : Tables → Phase → Slots → ℕ → Option ℕ
next_redone_at tables Idle W number = None
next_redone_at tables (Repairing edits n) W number = find (λ t. is_some (cause_at tables (Repairing edits n) W t)) (range_with_len (number + 1) (n - number))
