-- the copies so far and the rows that are left are all
use Rattle.std.proofs.Common.{◌≡◌, ◌++◌, drop, map}
use Rattle.tt_versions.specs.Sides.{rows_behind}
use Rattle.tt_generations.proofs.effect.copies_of.Given as goal

abbrev pub invariant-loop-row : goal.invariant-loop-row
invariant-loop-row l = l.copies.items ++ map (λ e. e.1) (rows_behind (drop l.row-index l.rows.items)) ≡ map (λ e. e.1) (rows_behind l.rows.items)
