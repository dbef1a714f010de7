-- What a session tells of slots: who asked for what, and what became of it in the current generation.
use Rattle.std.specs.Prelude.{ℕ, ◌+◌, ◌-◌, ◌==◌, ◌&&◌, nat_le, not, Bool, true, false, List, Option, None, Some, option_map, option_and_then, if◌then◌else◌}
use Rattle.std.specs.List.{filter_map, range_with_len}
use Rattle.tt_values.specs.declared.row.Row.{Row}
use Rattle.tt_values.specs.declared.row_id.RowId.{RowId}
use Rattle.tt_values.specs.declared.action.Action.{Action}
use Rattle.tt_values.specs.Same.{is_same_row, is_same_action}
use Rattle.tt_generations.specs.declared.slot.Slot.{Slot}
use Rattle.tt_db.specs.declared.event.Event.{Event}
use Rattle.tt_db.specs.declared.event.Event.TheVariants as events
use Rattle.tt_db.specs.declared.event.Entry.{Entry}
use Rattle.tt_db.specs.Database.{Database, nth_item, row_in, slot_of}
use Rattle.tt_requests.specs.declared.request.SlotFilter.{SlotFilter}
use Rattle.tt_requests.specs.declared.request.StampRange.{StampRange}
use Rattle.tt_answers.specs.declared.answer.SlotEntry.{SlotEntry}
use Rattle.tt_commands.specs.Session.{OpenSession, stamp_of}

-- an action as it was asked for, and the worker that did
pub record Asked : Type 0 where
  pub worker : ℕ
  pub action : Action

-- the action that an event asks for, if it does
abbrev pub action_of : Event → Option Action
action_of (events.Write action) = Some action
action_of (events.Begin edits) = None
action_of events.Step = None
action_of events.Switch = None
action_of events.Abort = None

-- an action as a worker asked for it
abbrev pub asked_for : ℕ → Action → Asked
asked_for worker action = record { worker = worker; action = action }

-- what a worker asks for by an event, if it is an action
abbrev pub asked_by : ℕ → Event → Option Asked
asked_by worker event = option_map (asked_for worker) (action_of event)

-- the actions that a history asks for, each of which took the next slot
abbrev pub asked_in : List Entry → List Asked
asked_in history = filter_map (λ e. asked_by e.worker e.event) history

-- the action that took a slot, as it was asked for, if the slot is there
abbrev pub asked_action : Database → ℕ → Option Action
asked_action db number = option_map (λ (asked : Asked). asked.action) (nth_item (asked_in db.history) number)

-- an action that was asked for, where its slot has another one now, or none
abbrev pub if_replaced : Action → Option Action → Option Action
if_replaced asked None = Some asked
if_replaced asked (Some action) = if is_same_action asked action then None else Some asked

-- a slot by its number, with its stamp and what was asked for
abbrev pub slot_entry : ℕ → Option ℕ → Slot → Asked → SlotEntry
slot_entry number stamp slot asked = record { number = number; worker = asked.worker; stamp = stamp; slot = slot; asked = if_replaced asked.action slot.action }

-- the slot of a number and of a stamp, if it is there
abbrev pub entry_of_slot : Database → ℕ → Option ℕ → Option SlotEntry
entry_of_slot db number stamp = option_and_then (λ slot. option_map (slot_entry number stamp slot) (nth_item (asked_in db.history) number)) (slot_of db number)

-- the numbers from one to another, both among them
abbrev pub numbers_between : ℕ → ℕ → List ℕ
numbers_between from to = range_with_len from (to + 1 - from)

-- whether a worker is the one that is asked for, if one is
abbrev pub is_asked_for : Option ℕ → ℕ → Bool
is_asked_for None worker = true
is_asked_for (Some wanted) worker = wanted == worker

-- whether a row is as it was: there with the same values, or not there at both times
abbrev pub is_unchanged : Option Row → Option Row → Bool
is_unchanged None None = true
is_unchanged None (Some after) = false
is_unchanged (Some before) None = false
is_unchanged (Some before) (Some after) = is_same_row before after

-- whether a slot changed the row that is asked for, if one is
abbrev pub changes_row : Database → Option RowId → ℕ → Bool
changes_row db None number = true
changes_row db (Some row) number = not (is_unchanged (row_in db row (number - 1)) (row_in db row number))

-- whether a stamp, if there is one, lies within the range that is asked for, if one is
abbrev pub is_stamped_within : Option StampRange → Option ℕ → Bool
is_stamped_within None stamp = true
is_stamped_within (Some range) None = false
is_stamped_within (Some range) (Some stamp) = nat_le range.low stamp && nat_le stamp range.high

-- whether a slot is one of the worker, has a stamp in the range and changes the row, where these are asked for
abbrev pub passes : Database → SlotFilter → SlotEntry → Bool
passes db filter e = is_asked_for filter.worker e.worker && (is_stamped_within filter.stamps e.stamp && changes_row db filter.row e.number)

-- what is told of a slot, if it passes
abbrev pub if_asked_for : Database → SlotFilter → SlotEntry → Option SlotEntry
if_asked_for db filter e = if passes db filter e then Some e else None

-- what is told of the slot of a number, if it is there and asked for
abbrev pub asked_entry : OpenSession → SlotFilter → ℕ → Option SlotEntry
asked_entry session filter number = option_and_then (if_asked_for session.database filter) (entry_of_slot session.database number (stamp_of session number))

-- the slots from one number to another that are asked for
abbrev pub slot_entries : OpenSession → ℕ → ℕ → SlotFilter → List SlotEntry
slot_entries session from to filter = filter_map (asked_entry session filter) (numbers_between from to)
