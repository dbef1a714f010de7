use Rattle.tt_causes.proofs.LawProofs.{differences_lead_to_the_switch}
use Rattle.tt_causes.proofs.laws.differences_lead_to_the_switch.Goals as goal

pub returns : goal.returns
returns c = differences_lead_to_the_switch
