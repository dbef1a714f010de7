-- The room behind the entry of the beginning of a repair.
use Rattle.std.proofs.Common.{nat_le, ◌∙◌}
use Rattle.tt_commands.proofs.RoomLemmas.{no_room-begin}
use Rattle.tt_commands.proofs.room.beginning_leaves_no_room.Goals as goal

pub returns : goal.returns
returns c edits = (λ i. nat_le (c.room_behind_entry.ensures i) (c.now.ensures i)) ∙ no_room-begin c.args.db.now edits
