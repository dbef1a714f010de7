use Rattle.tt_durable.proofs.OneWayLemmas.{logs_are_read_in_one_way}
use Rattle.tt_durable.proofs.laws.logs_are_read_in_one_way.Goals as goal

pub returns : goal.returns
returns c = logs_are_read_in_one_way
