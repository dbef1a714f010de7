use Rattle.tt_causes.proofs.LawProofs.{causes_lead_to_an_edit}
use Rattle.tt_causes.proofs.laws.causes_lead_to_an_edit.Goals as goal

pub returns : goal.returns
returns c = causes_lead_to_an_edit
