-- the entries so far and those of the changes that are left are all
use Rattle.std.proofs.Common.{◌≡◌, ◌++◌, map, drop}
use Rattle.tt_generations.specs.RowChanges.{change_told, changes_after}
use Rattle.tt_commands.specs.DiffEntries.{entry_in}
use Rattle.tt_commands.proofs.diff_entries.push_changes.Given as goal

abbrev pub invariant-loop-change : goal.invariant-loop-change
invariant-loop-change l =
    l.entries.items ++ map (entry_in l.table) (changes_after l.low (map change_told (drop l.change-index l.changes)))
    ≡ l.fn.entries.items ++ map (entry_in l.table) (changes_after l.low (map change_told l.changes))
