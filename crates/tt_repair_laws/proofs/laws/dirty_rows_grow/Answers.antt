use Rattle.tt_repair_laws.proofs.LawProofs.{dirty_rows_grow}
use Rattle.tt_repair_laws.proofs.laws.dirty_rows_grow.Goals as goal

pub returns : goal.returns
returns c = dirty_rows_grow
