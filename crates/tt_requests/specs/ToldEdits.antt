-- The edits that a repair begins with, whose slots are told: which isn't there, and the same edits by the numbers of the database.
use Rattle.std.specs.Prelude.{ℕ, ◌&&◌, not, nat_lt, Bool, List, [], ◌∷◌, Option, None, Some, if◌then◌else◌}
use Rattle.tt_repair_laws.specs.declared.edit.Edit.{Edit}
use Rattle.tt_repair_laws.specs.declared.edit.Edit.TheVariants.{Cancel, Replace}
use Rattle.tt_repair_laws.specs.Edits.{slot_number}
use Rattle.tt_requests.specs.declared.told.ToldTime.{ToldTime}
use Rattle.tt_requests.specs.Numbers.{Numbering, told_time, own_time, is_behind_horizon}

-- an edit's slot as it is told
abbrev pub told_slot : Edit → ToldTime
told_slot e = record { number = slot_number e }

-- whether a slot as it is told is there: behind the horizon, and no later than now
abbrev pub is_there : Numbering → ℕ → ToldTime → Bool
is_there numbering now slot = is_behind_horizon numbering slot && not (nat_lt (told_time numbering now).number slot.number)

-- the slot of the first edit whose slot isn't there
abbrev pub missing_slot : Numbering → ℕ → List Edit → Option ToldTime
missing_slot numbering now [] = None
missing_slot numbering now (e ∷ edits) = if is_there numbering now (told_slot e) then missing_slot numbering now edits else Some (told_slot e)

-- an edit of a slot of the database
abbrev pub own_edit : Numbering → Edit → Edit
own_edit numbering (Cancel t) = Cancel (own_time numbering (record { number = t }))
own_edit numbering (Replace t action) = Replace (own_time numbering (record { number = t })) action
