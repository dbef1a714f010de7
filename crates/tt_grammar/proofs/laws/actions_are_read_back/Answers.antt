use Rattle.tt_grammar.proofs.ActionReadLemmas.{actions_are_read_back}
use Rattle.tt_grammar.proofs.laws.actions_are_read_back.Goals as goal

pub returns : goal.returns
returns c = actions_are_read_back
