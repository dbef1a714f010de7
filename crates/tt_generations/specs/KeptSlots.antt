-- What is kept of each slot: its replies, and the rows that it touched.
use Rattle.std.specs.Prelude.{◌≡◌, ℕ, zero, suc, ◌<◌, nat_lt, List, map, length, slice_get, Option, None, Some, if◌then◌else◌}
use Rattle.std.specs.List.{All}
use Rattle.tt_values.specs.declared.action.Action.{Action}
use Rattle.tt_values.specs.Tables.{Tables}
use Rattle.tt_values.specs.Check.{action_fault}
use Rattle.tt_values.specs.Content.{Content}
use Rattle.tt_values.specs.RowWrites.{Slots, slot_after, slot_replies, content_of}
use Rattle.tt_repair_laws.specs.Due.{slot_rows_touched}
use Rattle.tt_generations.specs.declared.slot.Slot.{Slot}
use Rattle.tt_generations.specs.declared.slot.KeptSlot.{KeptSlot}

-- the content that all slots leave
abbrev pub last_content : Slots → Content
last_content W = content_of W (length W)

-- slot n + 1 with its replies: what its writes answer on the content just before it
abbrev pub slot_with_replies : Slots → ℕ → Slot
slot_with_replies W n = record { action = slot_after W n; replies = slot_replies (slot_after W n) (content_of W n) }

-- the slot of a number, counted from 1, with its replies
abbrev pub slot_at : Slots → ℕ → Option Slot
slot_at W zero = None
slot_at W (suc n) = if nat_lt n (length W) then Some (slot_with_replies W n) else None

-- what is kept of slot n + 1
abbrev pub kept_slot : Slots → ℕ → KeptSlot
kept_slot W n = record { slot = slot_with_replies W n; rows = slot_rows_touched (slot_after W n) (content_of W n) }

-- the actions of slots
abbrev pub actions_of : List KeptSlot → Slots
actions_of kept = map (λ k. k.slot.action) kept

-- each slot is kept, with what belongs to it by its position
pub record AreKept (kept : List KeptSlot) (at : ℕ → KeptSlot) (count : ℕ) : Type 0 where
  pub as_many : length kept ≡ count
  pub each : (n : ℕ) → n < count → slice_get kept n ≡ Some (at n)

-- an action has no fault
abbrev pub IsAccepted : Tables → Option Action → Type 0
IsAccepted tables None = Unit {0}
IsAccepted tables (Some action) = action_fault tables action.writes ≡ None

abbrev pub AreAccepted : Tables → Slots → Type 0
AreAccepted tables W = All (IsAccepted tables) W
