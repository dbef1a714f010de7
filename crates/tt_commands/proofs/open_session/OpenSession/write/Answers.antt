-- The database after an action that isn't refused is sound, and so is one without a history.
use Rattle.std.proofs.Common.{sym, ◌∙◌}
use Rattle.tt_db.specs.declared.event.Event.TheVariants as events
use Rattle.tt_commands.proofs.GoingOnLemmas.{sound-advanced}
use Rattle.tt_commands.proofs.open_session.OpenSession.write.Goals as goal

pub invariant_of-self : goal.invariant_of-self
invariant_of-self c =
    let s = c.self.inside in
    let done = c.write.ensures in
    sound-advanced c.write.result s.db c.write.new.self s.numbering s.records s.most_records c.args.worker (events.Write c.args.action) c.self.invariant
    (sym (c.action_leaves_no_room.ensures c.args.action) ∙ c.if-action_leaves_no_room.false) done.state done.accepted done.unchanged done.memory done.catalog done.limits
