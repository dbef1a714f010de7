use Rattle.tt_causes.proofs.LawProofs.{causes_are_as_many}
use Rattle.tt_causes.proofs.laws.causes_are_as_many.Goals as goal

pub returns : goal.returns
returns c = causes_are_as_many
