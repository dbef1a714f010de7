use Rattle.tt_commands.proofs.ChangeLemmas.{next_changes_end_as_changes}
use Rattle.tt_commands.proofs.laws.next_changes_end_as_changes.Goals as goal

pub returns : goal.returns
returns c = next_changes_end_as_changes
