-- The replies that a slot has.
use Rattle.std.specs.Prelude.{List, Option, None, Some}
use Rattle.tt_values.specs.declared.action.Action.{Action}
use Rattle.tt_values.specs.declared.reply.Reply.{Reply}

-- the replies to the writes of a slot. A cancelled one has none
abbrev pub replies_if : Option Action → List Reply → Option (List Reply)
replies_if None replies = None
replies_if (Some action) replies = Some replies
