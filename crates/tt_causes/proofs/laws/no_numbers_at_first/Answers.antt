use Rattle.tt_causes.proofs.LawProofs.{no_numbers_at_first}
use Rattle.tt_causes.proofs.laws.no_numbers_at_first.Goals as goal

pub returns : goal.returns
returns c = no_numbers_at_first
