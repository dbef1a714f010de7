-- what splits the rows that are left has split all
use Rattle.std.proofs.Common.{drop}
use Rattle.tt_generations.specs.Rows.{TablesByPosition, SplitsRows}
use Rattle.tt_generations.proofs.rows.Rows.split_rows.Given as goal

abbrev pub invariant-loop-row : goal.invariant-loop-row
invariant-loop-row l = (after : TablesByPosition) → SplitsRows l.self after (drop l.row-index l.rows) l.time → SplitsRows l.fn.self after l.rows l.time
