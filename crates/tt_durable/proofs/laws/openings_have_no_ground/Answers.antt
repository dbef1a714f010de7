use Rattle.tt_durable.proofs.LogReadLemmas.{openings_have_no_ground}
use Rattle.tt_durable.proofs.laws.openings_have_no_ground.Goals as goal

pub returns : goal.returns
returns c = openings_have_no_ground
