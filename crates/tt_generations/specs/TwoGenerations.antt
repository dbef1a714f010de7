-- The slots of two generations: those of the current one, and what a repair makes of them.
use Rattle.std.specs.Prelude.{◌≡◌, ℕ, suc, ◌≤◌, ◌-◌, ℤ, Bool, true, false, List, [], ◌∷◌, ◌++◌, map, length, nat_lt, Option, None, Some, if◌then◌else◌}
use Rattle.tt_values.specs.declared.action.Action.{Action}
use Rattle.tt_values.specs.Tables.{Tables}
use Rattle.tt_values.specs.Content.{Content, RowsByKey, content_at}
use Rattle.tt_values.specs.Effect.{matching_rows}
use Rattle.tt_values.specs.declared.statement.Select.{Select}
use Rattle.tt_values.specs.declared.reply.Reply.{Reply}
use Rattle.tt_values.specs.declared.reply.Reply.TheVariants as replies
use Rattle.tt_versions.specs.declared.side.Side.{Side}
use Rattle.tt_versions.specs.declared.side.Side.TheVariants.{Current, Next}
use Rattle.tt_values.specs.RowWrites.{Slots, row_writes, content_of}
use Rattle.tt_versions.specs.Sides.{RowsOverTime, ListsRows}
use Rattle.tt_parts.specs.Dirty.{has_row}
use Rattle.tt_repair_laws.specs.declared.edit.Edit.{Edit}
use Rattle.tt_generations.specs.declared.progress.Progress.{Progress}
use Rattle.tt_generations.specs.declared.slot.Slot.{Slot}
use Rattle.tt_generations.specs.KeptSlots.{slot_at}
use Rattle.tt_repair_laws.specs.Edits.{slot_number, edited_slots}
use Rattle.tt_repair_laws.specs.Due.{content_after, dirty_after, is_due, reexecuted_count}
use Rattle.tt_repair_laws.specs.NextSide.{current_side, next_side}

-- what is under way: nothing, or a repair with these edits that has done the first n slots
pub data Phase : Type 0 where
  Idle : Phase
  Repairing : List Edit → ℕ → Phase

-- the tables of a catalog, the slots of the current generation, and what is under way
pub record TwoGenerations : Type 0 where
  pub catalog : Tables
  pub slots : Slots
  pub phase : Phase

-- the tables of a catalog before the first slot
abbrev pub no_slots : Tables → TwoGenerations
no_slots tables = record { catalog = tables; slots = []; phase = Idle }

-- one more slot, with an action
abbrev pub with_action : TwoGenerations → Action → TwoGenerations
with_action G action = record G { slots = G.slots ++ Some action ∷ [] }

-- a repair with these edits, which has done no slot
abbrev pub with_repair : TwoGenerations → List Edit → TwoGenerations
with_repair G edits = record G { phase = Repairing edits 0 }

-- the repair has done one more slot
abbrev pub phase_after_step : Phase → Phase
phase_after_step Idle = Idle
phase_after_step (Repairing edits n) = Repairing edits (suc n)

abbrev pub after_step : TwoGenerations → TwoGenerations
after_step G = record G { phase = phase_after_step G.phase }

-- the slots as the repair has edited them
abbrev pub slots_edited_by : Phase → Slots → Slots
slots_edited_by Idle W = W
slots_edited_by (Repairing edits n) W = edited_slots W edits

-- the next generation becomes the current one
abbrev pub after_switch : TwoGenerations → TwoGenerations
after_switch G = record G { slots = slots_edited_by G.phase G.slots; phase = Idle }

-- the next generation is given up
abbrev pub after_abort : TwoGenerations → TwoGenerations
after_abort G = record G { phase = Idle }

-- whether a repair is under way
abbrev pub is_repairing : Phase → Bool
is_repairing Idle = false
is_repairing (Repairing edits n) = true

-- how many slots the repair has done
abbrev pub done_of : Phase → ℕ
done_of Idle = 0
done_of (Repairing edits n) = n

-- how many slots the repair has left to do
abbrev pub left_of : Phase → Slots → ℕ
left_of Idle W = 0
left_of (Repairing edits n) W = length W - n

-- how many of the slots done were due
abbrev pub reexecuted_of : Tables → Phase → Slots → ℕ
reexecuted_of tables Idle W = 0
reexecuted_of tables (Repairing edits n) W = reexecuted_count tables W edits n

-- whether the next slot of the repair is due
abbrev pub is_due_in : Tables → Phase → Slots → Bool
is_due_in tables Idle W = false
is_due_in tables (Repairing edits n) W = is_due tables W edits n

abbrev pub is_next_due : TwoGenerations → Bool
is_next_due G = is_due_in G.catalog G.phase G.slots

-- the content of the next generation after the slots that the repair has done
abbrev pub next_content_in : Phase → Slots → Content
next_content_in Idle W = content_after W 0
next_content_in (Repairing edits n) W = content_after (edited_slots W edits) n

abbrev pub next_content_of : TwoGenerations → Content
next_content_of G = next_content_in G.phase G.slots

-- the next content at a time, by the slots that the repair has done. Without a repair it is the current one
abbrev pub next_content_at : Phase → Slots → ℕ → Content
next_content_at Idle W time = content_of W time
next_content_at (Repairing edits n) W time = content_at (row_writes (edited_slots W edits) n) time

-- of the slots that the repair has done, the one of a number, counted from 1, as edited and with its replies in the next generation
abbrev pub next_slot_at : Phase → Slots → ℕ → Option Slot
next_slot_at Idle W number = None
next_slot_at (Repairing edits n) W number = if nat_lt n number then None else slot_at (edited_slots W edits) number

-- the next side of a table, which is the current one where no repair is under way
abbrev pub next_side_of : Tables → Phase → Slots → ℕ → RowsOverTime
next_side_of tables Idle W table = current_side W table
next_side_of tables (Repairing edits n) W table = next_side tables W edits n table

-- what a side of a table shows
abbrev pub rows_on : Side → TwoGenerations → ℕ → RowsOverTime
rows_on Current G table = current_side G.slots table
rows_on Next G table = next_side_of G.catalog G.phase G.slots table

-- a reply is right for a select, where its table shows these rows over time
abbrev pub AnswersOn : Reply → Select → RowsOverTime → ℕ → Type 0
AnswersOn reply q rows time = (all : RowsByKey) → ListsRows all rows time → reply ≡ replies.Rows (map (λ e. e.1) (matching_rows q.equals all))

-- the repair has done no more slots than there are
abbrev pub IsWithin : Phase → Slots → Type 0
IsWithin Idle W = Unit {0}
IsWithin (Repairing edits n) W = n ≤ length W

-- the dirty rows of a table
abbrev pub dirty_rows_of : Tables → Phase → Slots → ℕ → ℤ → Bool
dirty_rows_of tables Idle W table key = false
dirty_rows_of tables (Repairing edits n) W table key = has_row (dirty_after tables W edits n) table key

-- an edit names a slot that is there
abbrev pub NamesSlot : Slots → Edit → Type 0
NamesSlot W e = (1 ≤ slot_number e) × (slot_number e ≤ length W)

-- how far the repair is, if one is under way
abbrev pub progress_in : Tables → Phase → Slots → Option Progress
progress_in tables Idle W = None
progress_in tables (Repairing edits n) W = Some (record { done = n; left = length W - n; rerun = reexecuted_count tables W edits n })

abbrev pub progress_of : TwoGenerations → Option Progress
progress_of G = progress_in G.catalog G.phase G.slots
