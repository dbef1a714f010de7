-- the entries so far and those of the tables that are left are all, and no more than are asked for
use Rattle.std.proofs.Common.{◌≡◌, ◌≤◌, ◌++◌, length}
use Rattle.tt_commands.specs.DiffEntries.{entries_behind}
use Rattle.tt_commands.specs.DiffPages.{first_table}
use Rattle.tt_commands.proofs.CauseLemmas.{HasRoom}
use Rattle.tt_commands.proofs.DiffLemmas.{rest}
use Rattle.tt_commands.proofs.diff_entries.first_differences.Given as goal

abbrev pub invariant-loop-table : goal.invariant-loop-table
invariant-loop-table l = record {
  all : l.entries.items ++ rest l.db l.repair l.page.after l.table ≡ entries_behind l.db l.repair l.page.after;
  room : HasRoom l.page.most (length l.entries.items);
  first : first_table l.page.after ≤ l.table;
}
