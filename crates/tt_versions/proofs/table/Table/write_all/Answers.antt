-- Where a side is written on, it follows its list of row writes.
use Rattle.std.proofs.Common.{arith}
use Rattle.tt_versions.specs.Sides.{current_of, next_of, is_split, whole_among}
use Rattle.tt_versions.proofs.SidesLemmas.{writes_all}
use Rattle.tt_versions.proofs.RowsByWritesLemmas.{adds_row_writes}
use Rattle.tt_versions.proofs.table.Table.write_all.Goals as goal

pub returns-clause-current_adds : goal.returns-clause-current_adds
returns-clause-current_adds c = adds_row_writes c.args.rows (current_of c.args.self.now) (current_of c.write.new.self) c.args.time (grind (arith, writes_all))

pub returns-clause-next_adds : goal.returns-clause-next_adds
returns-clause-next_adds c =
    adds_row_writes (whole_among (is_split c.args.self.now) c.args.rows) (next_of c.args.self.now) (next_of c.write.new.self) c.args.time (grind (arith, writes_all))
