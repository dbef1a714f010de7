use Rattle.tt_values.proofs.LawProofs.{all_writes_are_tried}
use Rattle.tt_values.proofs.laws.all_writes_are_tried.Goals as goal

pub returns : goal.returns
returns c = all_writes_are_tried
