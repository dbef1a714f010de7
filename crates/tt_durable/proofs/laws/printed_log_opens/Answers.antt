use Rattle.tt_durable.proofs.LogReadLemmas.{printed_log_opens}
use Rattle.tt_durable.proofs.laws.printed_log_opens.Goals as goal

pub returns : goal.returns
returns c = printed_log_opens
