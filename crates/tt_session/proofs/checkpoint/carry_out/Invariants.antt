-- the entries that are left lead on to all of them
use Rattle.std.proofs.Common.{◌≡◌, ◌++◌, drop}
use Rattle.tt_session.specs.Recovery.{with_entries}
use Rattle.tt_session.proofs.checkpoint.carry_out.Given as goal

abbrev pub invariant-loop-entry : goal.invariant-loop-entry
invariant-loop-entry l = with_entries l.db (drop l.entry-index l.entries) ≡ with_entries l.initial.db l.entries
