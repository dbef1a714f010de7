use Rattle.tt_db.proofs.LawProofs.{each_slot_has_its_place}
use Rattle.tt_db.proofs.laws.each_slot_has_its_place.Goals as goal

pub returns : goal.returns
returns c = each_slot_has_its_place
