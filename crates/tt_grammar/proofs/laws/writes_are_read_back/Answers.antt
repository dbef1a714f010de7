use Rattle.tt_grammar.proofs.WriteReadLemmas.{writes_are_read_back}
use Rattle.tt_grammar.proofs.laws.writes_are_read_back.Goals as goal

pub returns : goal.returns
returns c = writes_are_read_back
