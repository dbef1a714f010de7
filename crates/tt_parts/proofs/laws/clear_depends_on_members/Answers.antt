use Rattle.tt_parts.proofs.LawProofs.{clear_depends_on_members}
use Rattle.tt_parts.proofs.laws.clear_depends_on_members.Goals as goal

pub returns : goal.returns
returns c = clear_depends_on_members
