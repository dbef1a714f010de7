use Rattle.tt_values.proofs.LawProofs.{writes_leave_their_last_content}
use Rattle.tt_values.proofs.laws.writes_leave_their_last_content.Goals as goal

pub returns : goal.returns
returns c = writes_leave_their_last_content
