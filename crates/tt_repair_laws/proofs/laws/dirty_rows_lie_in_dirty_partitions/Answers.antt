use Rattle.tt_repair_laws.proofs.LawProofs.{dirty_rows_lie_in_dirty_partitions}
use Rattle.tt_repair_laws.proofs.laws.dirty_rows_lie_in_dirty_partitions.Goals as goal

pub returns : goal.returns
returns c = dirty_rows_lie_in_dirty_partitions
