use Rattle.tt_durable.proofs.ReplayLemmas.{logs_are_read_back}
use Rattle.tt_durable.proofs.laws.logs_are_read_back.Goals as goal

pub returns : goal.returns
returns c = logs_are_read_back
