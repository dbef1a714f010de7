use Rattle.tt_session.proofs.ReadBackLemmas.{printed_writes_replace}
use Rattle.tt_session.proofs.laws.printed_writes_replace.Goals as goal

pub returns : goal.returns
returns c = printed_writes_replace
