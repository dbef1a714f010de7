-- The next side follows its list of row writes.
use Rattle.std.proofs.Common.{arith}
use Rattle.tt_versions.specs.Sides.{next_of}
use Rattle.tt_versions.proofs.SidesLemmas.{writes_all_next}
use Rattle.tt_versions.proofs.RowsByWritesLemmas.{adds_row_writes}
use Rattle.tt_versions.proofs.table.Table.write_all_next.Goals as goal

pub returns-clause-next_adds : goal.returns-clause-next_adds
returns-clause-next_adds c = adds_row_writes c.args.rows (next_of c.args.self.now) (next_of c.write.new.self) c.args.time (grind (arith, writes_all_next))
