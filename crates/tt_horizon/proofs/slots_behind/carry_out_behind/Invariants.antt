-- the entries so far and those of the slots that are left are all
use Rattle.std.proofs.Common.{◌≡◌}
use Rattle.tt_horizon.specs.Forgetting.{entries_behind}
use Rattle.tt_horizon.specs.Laying.{with_entries}
use Rattle.tt_horizon.proofs.slots_behind.carry_out_behind.Given as goal

abbrev pub invariant-loop-before : goal.invariant-loop-before
invariant-loop-before l = with_entries l.next (entries_behind l.db l.before) ≡ with_entries l.fn.next (entries_behind l.db l.time)
