-- Where a row is rolled back, its side follows the list of row writes without the later ones.
use Rattle.std.proofs.Common.{arith}
use Rattle.tt_versions.specs.Sides.{next_of}
use Rattle.tt_versions.proofs.SidesLemmas.{splits_back}
use Rattle.tt_versions.proofs.RowsByWritesLemmas.{drops_row_writes}
use Rattle.tt_versions.proofs.table.Table.split_row_back.Goals as goal

pub returns-clause-next_drops : goal.returns-clause-next_drops
returns-clause-next_drops c = drops_row_writes (next_of c.args.self.now) (next_of c.split_back.new.self) c.args.key c.args.time (grind (arith, splits_back))
