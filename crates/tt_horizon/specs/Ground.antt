-- The ground of slots that have forgotten what lies before a time: inserts of the rows that were there at that time.
use Rattle.std.specs.Prelude.{ℕ, zero, suc, ◌+◌, ◌-◌, List, [], ◌∷◌, ◌++◌, map, length, take, drop, Option, None, Some}
use Rattle.std.specs.List.{flat_map, range_with_len}
use Rattle.tt_values.specs.declared.statement.Write.{Write}
use Rattle.tt_values.specs.declared.action.Action.{Action}
use Rattle.tt_values.specs.declared.statement.Write.TheVariants.{Insert}
use Rattle.tt_values.specs.Content.{RowsByKey, Content}
use Rattle.tt_values.specs.Action.{action_of}
use Rattle.tt_values.specs.RowWrites.{Slots}
use Rattle.tt_repair_laws.specs.declared.edit.Edit.{Edit}
use Rattle.tt_repair_laws.specs.declared.edit.Edit.TheVariants.{Cancel, Replace}

-- the inserts of the rows of a table
abbrev pub inserts_of : ℕ → RowsByKey → List Write
inserts_of table rows = map (λ e. Insert table e.1) rows

-- the inserts of the rows of all tables below this number: by table, then by key
abbrev pub inserts_of_tables : ℕ → Content → List Write
inserts_of_tables tables X = flat_map (λ table. inserts_of table (X table)) (range_with_len 0 tables)

-- the first items, in lists of n, and no more lists than this; the last may have fewer items, and none is empty
abbrev pub some_pieces : {X : Type 0} → ℕ → ℕ → List X → List (List X)
some_pieces zero n items = []
some_pieces (suc most) n [] = []
some_pieces (suc most) n (item ∷ items) = take n (item ∷ items) ∷ some_pieces most n (drop n (item ∷ items))

-- items in lists of n; the last may have fewer, and none is empty
abbrev pub in_pieces : {X : Type 0} → ℕ → List X → List (List X)
in_pieces n items = some_pieces (length items) n items

-- how many writes an action of the ground has, but for the last one
abbrev pub ground_writes : ℕ
ground_writes = 16

-- the actions that insert the rows of all tables below this number
abbrev pub ground_of_content : ℕ → Content → List Action
ground_of_content tables X = map action_of (in_pieces ground_writes (inserts_of_tables tables X))

-- a slot as it stands behind the ground: one that was cancelled has the action of no writes
abbrev pub kept_slot : Option Action → Option Action
kept_slot None = Some (action_of [])
kept_slot (Some action) = Some action

-- slots that stand on a ground, in the place of the slots up to a time
abbrev pub on_ground : List Action → Slots → ℕ → Slots
on_ground G W time = map Some G ++ map kept_slot (drop time W)

-- where a time from the horizon on, or a slot behind it, comes to stand on a ground of this size
abbrev pub moved : ℕ → ℕ → ℕ → ℕ
moved horizon size t = (t - horizon) + size

-- an edit of a slot that has come to stand elsewhere
abbrev pub moved_edit : ℕ → ℕ → Edit → Edit
moved_edit horizon size (Cancel t) = Cancel (moved horizon size t)
moved_edit horizon size (Replace t action) = Replace (moved horizon size t) action
