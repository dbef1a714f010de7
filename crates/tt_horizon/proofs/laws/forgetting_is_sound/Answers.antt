use Rattle.tt_horizon.proofs.LawProofs.{forgetting_is_sound}
use Rattle.tt_horizon.proofs.laws.forgetting_is_sound.Goals as goal

pub returns : goal.returns
returns c = forgetting_is_sound
