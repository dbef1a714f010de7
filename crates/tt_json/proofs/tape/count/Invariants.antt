-- The items so far and those that are left are all items.
use Rattle.std.proofs.Common.{◌≡◌, ◌+◌, ◌^◌, ◌<◌, length}
use Rattle.tt_json.specs.Tape.{items_at, AreItems}
use Rattle.tt_json.proofs.tape.count.Given as goal

abbrev pub invariant-loop-count : goal.invariant-loop-count
invariant-loop-count l = AreItems l.items × (l.count + length (items_at l.items) ≡ length (items_at l.fn.items)) × (length (items_at l.fn.items) < 2 ^ 64)

abbrev pub decreases-loop-count : goal.decreases-loop-count
decreases-loop-count l = length l.items
