use Rattle.tt_parts.proofs.LawProofs.{same_partitions_are_equal}
use Rattle.tt_parts.proofs.laws.same_partitions_are_equal.Goals as goal

pub returns : goal.returns
returns c = same_partitions_are_equal
