use Rattle.tt_values.proofs.LawProofs.{rows_stay_by_rising_key}
use Rattle.tt_values.proofs.laws.rows_stay_by_rising_key.Goals as goal

pub returns : goal.returns
returns c = rows_stay_by_rising_key
