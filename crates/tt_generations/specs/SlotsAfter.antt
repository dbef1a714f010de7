-- The slots behind the first of them.
use Rattle.std.specs.Prelude.{◌≡◌, ℕ, suc, ◌+◌, ◌-◌, List, length, slice_get}
use Rattle.tt_values.specs.RowWrites.{Slots}
use Rattle.tt_generations.specs.declared.slot.Slot.{Slot}
use Rattle.tt_generations.specs.KeptSlots.{slot_at}

-- these are the slots behind the first `count`, in their order: at place i, counted from 0, stands slot count + i + 1, with its replies
pub record AreSlotsAfter (count : ℕ) (W : Slots) (slots : List Slot) : Type 0 where
  pub as_many : length slots ≡ length W - count
  pub each : (i : ℕ) → slice_get slots i ≡ slot_at W (suc (count + i))
