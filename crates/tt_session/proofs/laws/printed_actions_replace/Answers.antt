use Rattle.tt_session.proofs.ReadBackLemmas.{printed_actions_replace}
use Rattle.tt_session.proofs.laws.printed_actions_replace.Goals as goal

pub returns : goal.returns
returns c = printed_actions_replace
