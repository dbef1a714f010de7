use Rattle.tt_parts.proofs.LawProofs.{rows_lie_in_their_key_partition}
use Rattle.tt_parts.proofs.laws.rows_lie_in_their_key_partition.Goals as goal

pub returns : goal.returns
returns c = rows_lie_in_their_key_partition
