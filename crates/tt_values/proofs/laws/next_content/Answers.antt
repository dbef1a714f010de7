use Rattle.tt_values.proofs.LawProofs.{next_content}
use Rattle.tt_values.proofs.laws.next_content.Goals as goal

pub returns : goal.returns
returns c = next_content
