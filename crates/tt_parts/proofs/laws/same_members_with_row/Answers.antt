use Rattle.tt_parts.proofs.LawProofs.{same_members_with_row}
use Rattle.tt_parts.proofs.laws.same_members_with_row.Goals as goal

pub returns : goal.returns
returns c = same_members_with_row
