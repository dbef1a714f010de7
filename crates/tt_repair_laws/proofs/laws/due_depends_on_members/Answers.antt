use Rattle.tt_repair_laws.proofs.LawProofs.{due_depends_on_members}
use Rattle.tt_repair_laws.proofs.laws.due_depends_on_members.Goals as goal

pub returns : goal.returns
returns c = due_depends_on_members
