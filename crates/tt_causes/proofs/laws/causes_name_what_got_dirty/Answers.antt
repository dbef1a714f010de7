use Rattle.tt_causes.proofs.LawProofs.{causes_name_what_got_dirty}
use Rattle.tt_causes.proofs.laws.causes_name_what_got_dirty.Goals as goal

pub returns : goal.returns
returns c = causes_name_what_got_dirty
