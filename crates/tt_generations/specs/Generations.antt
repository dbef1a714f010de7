-- The invariants of the tables of two generations.
use Rattle.std.specs.Prelude.{◌≡◌, ℕ, ◌≤◌, nat_lt, List, length, Option, None, Some, if◌then◌else◌}
use Rattle.std.specs.List.{All}
use Rattle.tt_values.specs.Tables.{Tables, IsCatalog}
use Rattle.tt_values.specs.RowWrites.{Slots}
use Rattle.tt_versions.specs.Sides.{current_of, next_of, is_split}
use Rattle.tt_parts.specs.Dirty.{SameMembers}
use Rattle.tt_repair_laws.specs.declared.edit.Edit.{Edit}
use Rattle.tt_repair_laws.specs.Edits.{edited_slots, HasNoFault}
use Rattle.tt_repair_laws.specs.Due.{is_due, dirty_after, reexecuted_count}
use Rattle.tt_repair_laws.specs.NextSide.{current_side}
use Rattle.tt_causes.specs.Numbers.{TellsSince}
use Rattle.tt_generations.specs.declared.slot.KeptSlot.{KeptSlot}
use Rattle.tt_generations.specs.declared.repair.Repair.{Repair}
use Rattle.tt_generations.specs.Limits.{max_slots}
use Rattle.tt_generations.specs.Rows.{TablesByPosition, versions_at}
use Rattle.tt_generations.specs.EditsByNumber.{HasEdits}
use Rattle.tt_generations.specs.KeptSlots.{kept_slot, actions_of, AreKept, AreAccepted}
use Rattle.tt_generations.specs.ReexecutedSlots.{numbers_of}
use Rattle.tt_generations.specs.TwoGenerations.{TwoGenerations, Phase, Idle, Repairing, NamesSlot, next_side_of, dirty_rows_of}

-- both sides of each table show what they are to show, and the dirty rows are split
pub record HaveBothSides (versions : TablesByPosition) (tables : Tables) (phase : Phase) (W : Slots) : Type 0 where
  pub current : (table : ℕ) → current_of (versions_at versions table) ≡ current_side W table
  pub next : (table : ℕ) → next_of (versions_at versions table) ≡ next_side_of tables phase W table
  pub split : (table : ℕ) → is_split (versions_at versions table) ≡ dirty_rows_of tables phase W table

-- what is kept of slot i + 1 for the next generation: if the repair has done it, it is the edited slot, else the current one
abbrev pub next_kept_slot : Slots → List Edit → ℕ → ℕ → KeptSlot
next_kept_slot W E n i = if nat_lt i n then kept_slot (edited_slots W E) i else kept_slot W i

-- what a repair keeps
pub record IsRepair (tables : Tables) (W : Slots) (r : Repair) : Type 0 where
  pub named : All (NamesSlot W) r.edits
  pub accepted : All (HasNoFault tables) r.edits
  pub replacements : HasEdits r.replacements r.edits
  pub done : r.done ≤ length W
  pub reexecuted : r.reexecuted ≡ numbers_of (is_due tables W r.edits) r.done
  pub count : length r.reexecuted ≡ reexecuted_count tables W r.edits r.done
  pub catalog : r.dirty.catalog ≡ tables
  pub dirty : SameMembers r.dirty.dirty (dirty_after tables W r.edits r.done)
  pub since : TellsSince tables W r.edits r.done r.dirty.since
  pub slots : AreKept r.slots (next_kept_slot W r.edits r.done) (length W)

-- the repair that is under way, if one is
abbrev pub phase_of : Option Repair → Phase
phase_of None = Idle
phase_of (Some r) = Repairing r.edits r.done

-- the two generations of these slots
abbrev pub generations_of : Tables → List KeptSlot → Option Repair → TwoGenerations
generations_of tables kept repair = record { catalog = tables; slots = actions_of kept; phase = phase_of repair }

abbrev pub IsRepairIfAny : Tables → Slots → Option Repair → Type 0
IsRepairIfAny tables W None = Unit {0}
IsRepairIfAny tables W (Some r) = IsRepair tables W r

-- the slots are kept, the tables show both generations, and a repair keeps what it needs
pub record AreGenerations (tables : Tables) (kept : List KeptSlot) (versions : TablesByPosition) (repair : Option Repair) : Type 0 where
  pub catalog : IsCatalog tables
  pub few : length kept ≤ max_slots
  pub accepted : AreAccepted tables (actions_of kept)
  pub slots : AreKept kept (kept_slot (actions_of kept)) (length kept)
  pub rows : HaveBothSides versions tables (phase_of repair) (actions_of kept)
  pub under_way : IsRepairIfAny tables (actions_of kept) repair
