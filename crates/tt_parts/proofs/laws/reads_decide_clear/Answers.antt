use Rattle.tt_parts.proofs.LawProofs.{reads_decide_clear}
use Rattle.tt_parts.proofs.laws.reads_decide_clear.Goals as goal

pub returns : goal.returns
returns c = reads_decide_clear
