use Rattle.tt_repair_laws.proofs.LawProofs.{content_after_is_kept}
use Rattle.tt_repair_laws.proofs.laws.content_after_is_kept.Goals as goal

pub returns : goal.returns
returns c = content_after_is_kept
