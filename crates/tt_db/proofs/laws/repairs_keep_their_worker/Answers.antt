use Rattle.tt_db.proofs.LawProofs.{repairs_keep_their_worker}
use Rattle.tt_db.proofs.laws.repairs_keep_their_worker.Goals as goal

pub returns : goal.returns
returns c = repairs_keep_their_worker
