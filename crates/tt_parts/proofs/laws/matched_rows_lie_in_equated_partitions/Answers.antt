use Rattle.tt_parts.proofs.LawProofs.{matched_rows_lie_in_equated_partitions}
use Rattle.tt_parts.proofs.laws.matched_rows_lie_in_equated_partitions.Goals as goal

pub returns : goal.returns
returns c = matched_rows_lie_in_equated_partitions
