use Rattle.tt_requests.proofs.LawProofs.{requests_are_judged}
use Rattle.tt_requests.proofs.laws.requests_are_judged.Goals as goal

pub returns : goal.returns
returns c = requests_are_judged
