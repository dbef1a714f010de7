use Rattle.tt_db.proofs.LawProofs.{switches_keep_what_is_told}
use Rattle.tt_db.proofs.laws.switches_keep_what_is_told.Goals as goal

pub returns : goal.returns
returns c = switches_keep_what_is_told
