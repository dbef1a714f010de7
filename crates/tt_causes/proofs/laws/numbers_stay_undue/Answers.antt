use Rattle.tt_causes.proofs.LawProofs.{numbers_stay_undue}
use Rattle.tt_causes.proofs.laws.numbers_stay_undue.Goals as goal

pub returns : goal.returns
returns c = numbers_stay_undue
