use Rattle.tt_parts.proofs.LawProofs.{each_partition_is_in_its_list}
use Rattle.tt_parts.proofs.laws.each_partition_is_in_its_list.Goals as goal

pub returns : goal.returns
returns c = each_partition_is_in_its_list
