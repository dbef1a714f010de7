use Rattle.tt_session.proofs.ReadBackLemmas.{printed_tables_open}
use Rattle.tt_session.proofs.laws.printed_tables_open.Goals as goal

pub returns : goal.returns
returns c = printed_tables_open
