-- The history has as many entries as the state tells.
use Rattle.std.proofs.Common.{sym, ◌∙◌}
use Rattle.tt_commands.proofs.RoomLemmas.{events-after}
use Rattle.tt_commands.proofs.repairing.status_of.Goals as goal

pub returns : goal.returns
returns c = λ i. record {
  time = c.now.ensures i;
  generation = c.generation.ensures i;
  oldest = c.oldest.ensures i;
  entries = (c.events.ensures.count ∙ sym (events-after c.args.db.now.limits c.args.db.now.history)) i;
  repair = c.repair_status.ensures i;
}
