-- the slots so far and those that are left are all
use Rattle.std.proofs.Common.{◌≡◌, ◌++◌}
use Rattle.tt_commands.specs.SlotEntries.{slot_entries}
use Rattle.tt_commands.proofs.slot_entries.slot_entries.Given as goal

abbrev pub invariant-loop-number : goal.invariant-loop-number
invariant-loop-number l = l.entries.items ++ slot_entries l.session l.number l.to l.filter ≡ slot_entries l.session l.from l.to l.filter
