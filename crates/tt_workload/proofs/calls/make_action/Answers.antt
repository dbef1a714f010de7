-- An action that is accepted isn't refused.
use Rattle.tt_workload.proofs.RepairLemmas.{is_accepted}
use Rattle.tt_workload.proofs.calls.make_action.Goals as goal

pub write-requires : goal.write-requires
write-requires c = is_accepted c.args.db.now c.args.action c.requires.accepted c.requires.room
