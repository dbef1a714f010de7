use Rattle.tt_causes.proofs.LawProofs.{numbers_tell_what_is_dirty}
use Rattle.tt_causes.proofs.laws.numbers_tell_what_is_dirty.Goals as goal

pub returns : goal.returns
returns c = numbers_tell_what_is_dirty
