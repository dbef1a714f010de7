use Rattle.tt_db.proofs.LawProofs.{rows_have_their_keys}
use Rattle.tt_db.proofs.laws.rows_have_their_keys.Goals as goal

pub returns : goal.returns
returns c = rows_have_their_keys
