-- the set with the rows that are left is the one with all
use Rattle.std.proofs.Common.{◌≡◌, drop}
use Rattle.tt_parts.specs.Dirty.{SameMembers}
use Rattle.tt_causes.specs.Numbers.{GotDirtyAt}
use Rattle.tt_generations.specs.Repair.{with_rows_shown}
use Rattle.tt_generations.proofs.repair.add_each_row_shown.Given as goal

abbrev pub invariant-loop-row : goal.invariant-loop-row
invariant-loop-row l = record {
  catalog : l.dirty.catalog ≡ l.fn.dirty.catalog;
  dirty : SameMembers (with_rows_shown l.dirty l.rows (drop l.row-index l.reexecuted) l.time) (with_rows_shown l.fn.dirty l.rows l.reexecuted l.time);
  since : GotDirtyAt l.fn.dirty.since l.time l.dirty.dirty l.dirty.since;
}
