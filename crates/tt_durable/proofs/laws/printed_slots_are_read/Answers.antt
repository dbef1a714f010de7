use Rattle.tt_durable.proofs.LogReadLemmas.{printed_slots_are_read}
use Rattle.tt_durable.proofs.laws.printed_slots_are_read.Goals as goal

pub returns : goal.returns
returns c = printed_slots_are_read
