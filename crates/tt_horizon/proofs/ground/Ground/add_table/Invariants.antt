-- the rows so far are added
use Rattle.std.proofs.Common.{map, take}
use Rattle.tt_values.specs.declared.statement.Write.TheVariants.{Insert}
use Rattle.tt_horizon.specs.Laying.{AddsWrites}
use Rattle.tt_horizon.proofs.ground.Ground.add_table.Given as goal

abbrev pub invariant-loop-row : goal.invariant-loop-row
invariant-loop-row l = AddsWrites l.fn.self l.self (map (Insert l.table) (take l.row-index l.rows))
