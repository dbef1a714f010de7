use Rattle.tt_causes.proofs.LawProofs.{numbers_grow}
use Rattle.tt_causes.proofs.laws.numbers_grow.Goals as goal

pub returns : goal.returns
returns c = numbers_grow
