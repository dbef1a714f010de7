use Rattle.tt_durable.proofs.LogReadLemmas.{printed_ground_is_read}
use Rattle.tt_durable.proofs.laws.printed_ground_is_read.Goals as goal

pub returns : goal.returns
returns c = printed_ground_is_read
