-- the copies so far and the differences that are left are all
use Rattle.std.proofs.Common.{◌≡◌, ◌++◌, drop, map}
use Rattle.tt_generations.specs.RowChanges.{change_told, change_behind}
use Rattle.tt_generations.proofs.row_change.changes_of.Given as goal

abbrev pub invariant-loop-difference : goal.invariant-loop-difference
invariant-loop-difference l = map change_told l.changes.items ++ map change_behind (drop l.difference-index l.differences) ≡ map change_behind l.differences
