use Rattle.tt_commands.proofs.GoingOnLemmas.{requests_keep_sessions_sound}
use Rattle.tt_commands.proofs.laws.requests_keep_sessions_sound.Goals as goal

pub returns : goal.returns
returns c = requests_keep_sessions_sound
