-- The database after an event that isn't refused is sound, and so is one without a history.
use Rattle.std.proofs.Common.{sym, ◌∙◌}
use Rattle.tt_commands.proofs.GoingOnLemmas.{sound-advanced}
use Rattle.tt_commands.proofs.open_session.OpenSession.advance.Goals as goal

pub invariant_of-self : goal.invariant_of-self
invariant_of-self c =
    let s = c.self.inside in
    let done = c.advance.ensures in
    sound-advanced c.advance.result s.db c.advance.new.self s.numbering s.records s.most_records c.args.worker c.args.event c.self.invariant
    (sym c.leaves_no_room.ensures ∙ c.if-leaves_no_room.false) done.state done.accepted done.unchanged done.memory done.catalog done.limits
