-- The database after a switch is sound: no repair is under way. So is one without a history.
use Rattle.std.proofs.Common.{refl}
use Rattle.tt_db.specs.declared.event.Event.TheVariants as events
use Rattle.tt_commands.proofs.GoingOnLemmas.{sound-advanced}
use Rattle.tt_commands.proofs.open_session.OpenSession.switch.Goals as goal

pub invariant_of-self : goal.invariant_of-self
invariant_of-self c =
    let s = c.self.inside in
    let done = c.switch.ensures in
    sound-advanced c.switch.result s.db c.switch.new.self s.numbering s.records s.most_records c.args.worker events.Switch c.self.invariant refl
    done.state done.accepted done.unchanged done.memory done.catalog done.limits
