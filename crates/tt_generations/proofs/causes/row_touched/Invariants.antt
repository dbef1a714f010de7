-- the least of the rows so far
use Rattle.std.proofs.Common.{◌≡◌, take}
use Rattle.std.specs.List.{find}
use Rattle.tt_values.specs.Action.{each_row_once}
use Rattle.tt_causes.specs.Numbers.{is_by, row_id_since}
use Rattle.tt_generations.proofs.causes.row_touched.Given as goal

abbrev pub invariant-loop-row : goal.invariant-loop-row
invariant-loop-row l = l.least ≡ find (λ r. is_by l.since (row_id_since l.dirty.since r)) (each_row_once (take l.row-index l.rows))
