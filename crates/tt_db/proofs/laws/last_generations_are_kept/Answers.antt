use Rattle.tt_db.proofs.LawProofs.{last_generations_are_kept}
use Rattle.tt_db.proofs.laws.last_generations_are_kept.Goals as goal

pub returns : goal.returns
returns c = last_generations_are_kept
