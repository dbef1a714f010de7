-- One step of a repair: whether the next slot is due, and what its re-execution leaves.
use Rattle.std.specs.Prelude.{◌≡◌, ℕ, zero, suc, pred, ◌-◌, ◌+◌, pos, Bool, true, false, ◌||◌, if◌then◌else◌, List, [], ◌∷◌, ◌++◌, fold, slice_set, Option, None, Some, is_some}
use Rattle.std.specs.List.{All, list_any}
use Rattle.std.specs.Ordering.{int_cmp}
use Rattle.std.specs.FinMap.Entries as sorted
use Rattle.tt_values.specs.declared.row_id.RowId.{RowId}
use Rattle.tt_values.specs.declared.action.Action.{Action}
use Rattle.tt_values.specs.Check.{HasKey}
use Rattle.tt_values.specs.Content.{Content}
use Rattle.tt_values.specs.Action.{action_of, content_after_action}
use Rattle.tt_values.specs.RowWrites.{slot_replies}
use Rattle.tt_versions.specs.Sides.{next_of}
use Rattle.tt_parts.specs.Dirty.{DirtySet, DirtyTables, SameMembers, columns_in, has_row, with_row}
use Rattle.tt_repair_laws.specs.Due.{may_read_dirty, slot_rows_touched, slot_rows_matched, with_row_of}
use Rattle.tt_causes.specs.Causes.{Cause, Edited}
use Rattle.tt_causes.specs.Numbers.{GotDirtyAt, cause_by_numbers}
use Rattle.tt_generations.specs.declared.slot.KeptSlot.{KeptSlot}
use Rattle.tt_generations.specs.declared.edits.Replacement.{Replacement}
use Rattle.tt_generations.specs.declared.repair.Repair.{Repair}
use Rattle.tt_generations.specs.Rows.{TablesByPosition, versions_at}
use Rattle.tt_generations.specs.Reexecution.{ShowsContentBefore, AreReexecuted}

-- each insert of an action has a key
abbrev pub HasKeysIfAny : Option Action → Type 0
HasKeysIfAny None = Unit {0}
HasKeysIfAny (Some action) = All HasKey action.writes

-- whether what is dirty may affect an action that touched these rows
abbrev pub is_action_affected : DirtyTables → List RowId → Action → Bool
is_action_affected d rows action = list_any (λ r. has_row d.dirty r.table r.key) rows || may_read_dirty d.catalog d.dirty action.writes

-- whether what is dirty may affect a slot that touched these rows. A cancelled slot isn't affected
abbrev pub is_kept_affected : DirtyTables → List RowId → Option Action → Bool
is_kept_affected d rows None = false
is_kept_affected d rows (Some action) = is_action_affected d rows action

-- the replacement of the next slot, if it has an edit
abbrev pub next_replacement : Repair → Option Replacement
next_replacement r = sorted.find int_cmp (pos (r.done + 1)) r.replacements

-- whether the next slot, of which this is kept, is due
abbrev pub is_kept_due : Repair → KeptSlot → Bool
is_kept_due r kept = is_some (next_replacement r) || is_kept_affected r.dirty kept.rows kept.slot.action

-- the action of a slot. That of a cancelled one has no writes
abbrev pub as_action : Option Action → Action
as_action None = action_of []
as_action (Some action) = action

-- the cause of the slot of a number, counted from 1, of which this is kept, if it was re-executed
abbrev pub kept_cause : Repair → ℕ → KeptSlot → Option Cause
kept_cause r number kept =
    if is_some (sorted.find int_cmp (pos number) r.replacements) then Some Edited
    else cause_by_numbers r.dirty.catalog r.dirty.since kept.rows (as_action kept.slot.action).writes (pred number)

-- of the next slots, of which these are kept and there are at most this number, how many come before the first that is due
abbrev pub undue_front : ℕ → Repair → List KeptSlot → ℕ
undue_front zero r slots = 0
undue_front (suc most) r [] = 0
undue_front (suc most) r (kept ∷ slots) = if is_kept_due r kept then 0 else suc (undue_front most (record r { done = r.done + 1 }) slots)

-- an action, unless it is replaced
abbrev pub replaced_by : Option Replacement → Option Action → Option Action
replaced_by None action = action
replaced_by (Some replacement) action = replacement.action

-- the action that the repair gives the next slot, of which this is kept
abbrev pub next_action : Repair → KeptSlot → Option Action
next_action r kept = replaced_by (next_replacement r) kept.slot.action

-- a list is these rows, or these rows twice in a row
abbrev pub MayRepeat : List RowId → List RowId → Type 0
MayRepeat rows all = (twice : Bool) × (all ≡ (if twice then rows ++ rows else rows))

-- the dirty set with rows that tables show on the next side before a time and at it
abbrev pub with_rows_shown : DirtyTables → TablesByPosition → List RowId → ℕ → DirtySet
with_rows_shown d versions rows time =
    fold (λ D r. let side = next_of (versions_at versions r.table) r.key in with_row D r.table (columns_in d.catalog r.table) r.key (side (time - 1)) (side time)) d.dirty rows

-- what the re-execution of the next slot leaves, on tables that show a content before it
pub record HasReexecutedSlot (r : Repair) (kept : KeptSlot) (versions : TablesByPosition) (after : Repair) (left : TablesByPosition) (X : Content) : Type 0 where
  pub rows : AreReexecuted versions left (kept.rows ++ slot_rows_matched (next_action r kept) X) (r.done + 1) (content_after_action (as_action (next_action r kept)) X)
  pub slots : after.slots ≡ slice_set r.slots r.done (record {
    slot = record { action = next_action r kept; replies = slot_replies (next_action r kept) X };
    rows = slot_rows_touched (next_action r kept) X;
  })
  pub dirty : SameMembers after.dirty.dirty
      (fold (with_row_of r.dirty.catalog X (content_after_action (as_action (next_action r kept)) X)) r.dirty.dirty (kept.rows ++ slot_rows_matched (next_action r kept) X))
  pub since : GotDirtyAt r.dirty.since (r.done + 1) after.dirty.dirty after.dirty.since

abbrev pub ReexecutesSlot : Repair → KeptSlot → TablesByPosition → Repair → TablesByPosition → Type 0
ReexecutesSlot r kept versions after left = (X : Content) → ShowsContentBefore versions (r.done + 1) X kept.rows → HasReexecutedSlot r kept versions after left X

-- a repair has done one more slot, which was due
pub record HasDoneDueSlot (before after : Repair) : Type 0 where
  pub edits : after.edits ≡ before.edits
  pub replacements : after.replacements ≡ before.replacements
  pub done : after.done ≡ before.done + 1
  pub reexecuted : after.reexecuted ≡ before.reexecuted ++ (before.done + 1) ∷ []
  pub catalog : after.dirty.catalog ≡ before.dirty.catalog

-- the repair, if there is one, after a slot was added to the current generation
abbrev pub repair_with_slot : KeptSlot → Option Repair → Option Repair
repair_with_slot k None = None
repair_with_slot k (Some r) = Some (record r { slots = r.slots ++ k ∷ [] })

-- the slots of the next generation, or those of the current one where there is no repair
abbrev pub next_slots : Option Repair → List KeptSlot → List KeptSlot
next_slots None slots = slots
next_slots (Some r) slots = r.slots

-- a repair does a slot, which was due or not
abbrev pub DoesSlot : Repair → KeptSlot → TablesByPosition → Bool → Repair → TablesByPosition → Type 0
DoesSlot r kept versions false after left = (after ≡ record r { done = r.done + 1 }) × (left ≡ versions)
DoesSlot r kept versions true after left = HasDoneDueSlot r after × ReexecutesSlot r kept versions after left
