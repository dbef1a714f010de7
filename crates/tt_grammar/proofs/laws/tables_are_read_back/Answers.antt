use Rattle.tt_grammar.proofs.TableReadLemmas.{tables_are_read_back}
use Rattle.tt_grammar.proofs.laws.tables_are_read_back.Goals as goal

pub returns : goal.returns
returns c = tables_are_read_back
