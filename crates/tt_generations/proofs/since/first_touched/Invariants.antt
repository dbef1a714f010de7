-- the number so far and those of the rows that are left give that of all
use Rattle.std.proofs.Common.{◌≡◌, drop}
use Rattle.tt_causes.specs.Numbers.{earlier, earliest, row_id_since}
use Rattle.tt_generations.proofs.since.first_touched.Given as goal

abbrev pub invariant-loop-row : goal.invariant-loop-row
invariant-loop-row l = earlier l.since (earliest (row_id_since l.dirty.since) (drop l.row-index l.rows)) ≡ earliest (row_id_since l.dirty.since) l.rows
