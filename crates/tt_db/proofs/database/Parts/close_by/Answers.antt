-- A switch alone closes a generation.
use Rattle.std.proofs.Common.{sym}
use Rattle.tt_db.proofs.DatabaseLemmas.{closed_after-other}
use Rattle.tt_db.proofs.database.Parts.close_by.Goals as goal

pub returns-in_default-clause-closed : goal.returns-in_default-clause-closed
returns-in_default-clause-closed c =
    let parts = c.args.self.now in
    sym (closed_after-other parts.limits.keep parts.closed parts.generation parts.generations c.args.event.now c.in_default.not-Switch)
