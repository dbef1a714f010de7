-- The row writes of a list of slots. A slot is an action, or none if it was cancelled.
--
-- The rule of the whole repository: slots, times and places of the history count from 1, and
-- time 0 is before the first write. Positions of tables, columns and items count from 0.
use Rattle.std.specs.Prelude.{ℕ, zero, suc, List, [], ◌++◌, length, Option, None, Some, slice_get}
use Rattle.std.specs.Option.{unwrap_or}
use Rattle.tt_values.specs.declared.action.Action.{Action}
use Rattle.tt_values.specs.declared.reply.Reply.{Reply}
use Rattle.tt_values.specs.Content.{Content, RowWrite, content_at}
use Rattle.tt_values.specs.Action.{replies_of, action_writes}

-- a list of slots. Slot n + 1 is at position n, and writes at time n + 1
abbrev pub Slots : Type 0
Slots = List (Option Action)

-- slot n + 1, the one after the first n
abbrev pub slot_after : Slots → ℕ → Option Action
slot_after W n = unwrap_or (slice_get W n) None

-- the effect of a slot on a content, as row writes at this time
abbrev pub slot_writes : ℕ → Option Action → Content → List RowWrite
slot_writes time None X = []
slot_writes time (Some action) X = action_writes time action X

-- the replies to a slot on a content: a cancelled slot has none, and an empty action the empty list
abbrev pub slot_replies : Option Action → Content → Option (List Reply)
slot_replies None X = None
slot_replies (Some action) X = Some (replies_of action X)

-- the row writes of the first n slots. Each slot writes on the content after the slots before it
unfoldable pub row_writes : Slots → ℕ → List RowWrite
row_writes W zero = []
row_writes W (suc n) = row_writes W n ++ slot_writes (suc n) (slot_after W n) (content_at (row_writes W n) n)

-- the content at a time, by all slots of the list
abbrev pub content_of : Slots → ℕ → Content
content_of W time = content_at (row_writes W (length W)) time
