-- the entries so far and those behind the last slot that was told are all, and no more than are asked for
use Rattle.std.proofs.Common.{◌≡◌, ◌++◌, ◌-◌, length}
use Rattle.tt_commands.specs.AskedRepairs.{done_by}
use Rattle.tt_commands.specs.CauseEntries.{cause_entries}
use Rattle.tt_commands.proofs.CauseLemmas.{HasRoom}
use Rattle.tt_commands.proofs.cause_entries.first_causes.Given as goal

abbrev pub invariant-loop-slot : goal.invariant-loop-slot
invariant-loop-slot l = record {
  all : l.entries.items ++ cause_entries l.db l.repair l.told ≡ cause_entries l.db l.repair l.before;
  room : HasRoom l.most (length l.entries.items);
}

abbrev pub decreases-loop-slot : goal.decreases-loop-slot
decreases-loop-slot l = done_by l.db l.repair - l.told
