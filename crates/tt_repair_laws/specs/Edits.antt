-- A list of slots with the edits of a repair.
use Rattle.std.specs.Prelude.{◌≡◌, ℕ, suc, ◌==◌, List, [], ◌∷◌, Option, None, Some, if◌then◌else◌}
use Rattle.tt_values.specs.declared.action.Action.{Action}
use Rattle.tt_values.specs.Tables.{Tables}
use Rattle.tt_values.specs.Check.{action_fault}
use Rattle.tt_values.specs.RowWrites.{Slots}
use Rattle.tt_repair_laws.specs.declared.edit.Edit.{Edit}
use Rattle.tt_repair_laws.specs.declared.edit.Edit.TheVariants.{Cancel, Replace}

-- the number of the slot that an edit is for
abbrev pub slot_number : Edit → ℕ
slot_number (Cancel t) = t
slot_number (Replace t action) = t

-- the action that an edit puts into its slot, none if it cancels the slot
abbrev pub replacement_of : Edit → Option Action
replacement_of (Cancel t) = None
replacement_of (Replace t action) = Some action

-- the action of an edit, if it has one, has no fault
abbrev pub HasNoFault : Tables → Edit → Type 0
HasNoFault tables (Cancel t) = Unit {0}
HasNoFault tables (Replace t action) = action_fault tables action.writes ≡ None

-- the edit of slot t, the first if there are several
abbrev pub edit_of : List Edit → ℕ → Option Edit
edit_of [] t = None
edit_of (e ∷ E) t = if slot_number e == t then Some e else edit_of E t

-- a slot with its edit, if it has one
abbrev pub slot_with_edit : Option Edit → Option Action → Option Action
slot_with_edit None s = s
slot_with_edit (Some e) s = replacement_of e

-- slots with their edits, where the first of them is slot t
abbrev pub edited_slots_from : ℕ → Slots → List Edit → Slots
edited_slots_from t [] E = []
edited_slots_from t (s ∷ W) E = slot_with_edit (edit_of E t) s ∷ edited_slots_from (suc t) W E

-- a list of slots with nothing at each slot that is cancelled, and the new action at each slot that is replaced
abbrev pub edited_slots : Slots → List Edit → Slots
edited_slots W E = edited_slots_from 1 W E
