-- the slots are those of the database, and the changes so far and those of the records that are left are all, and no more than are asked for
use Rattle.std.proofs.Common.{◌≡◌, ◌++◌, length, drop}
use Rattle.tt_commands.specs.Moments.{entries_at}
use Rattle.tt_commands.proofs.CauseLemmas.{HasRoom}
use Rattle.tt_commands.proofs.change_entries.first_changes.Given as goal

abbrev pub invariant-loop-index : goal.invariant-loop-index
invariant-loop-index l = record {
  database : l.slots ≡ l.db;
  all : l.entries.items ++ entries_at l.moment l.db l.page (drop l.index l.records) ≡ entries_at l.moment l.db l.page l.records;
  room : HasRoom l.page.most (length l.entries.items);
}
