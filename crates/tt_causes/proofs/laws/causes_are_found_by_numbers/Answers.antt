use Rattle.tt_causes.proofs.LawProofs.{causes_are_found_by_numbers}
use Rattle.tt_causes.proofs.laws.causes_are_found_by_numbers.Goals as goal

pub returns : goal.returns
returns c = causes_are_found_by_numbers
