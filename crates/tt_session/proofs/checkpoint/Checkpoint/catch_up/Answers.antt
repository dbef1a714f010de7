-- The database has all entries that the checkpoint knows.
use Rattle.std.proofs.Common.{sym, subst, arith}
use Rattle.tt_db.specs.Database.{Database}
use Rattle.tt_session.specs.Recovery.{ComesFrom}
use Rattle.tt_session.proofs.RecoveryLemmas.{entries-fit}
use Rattle.tt_session.proofs.checkpoint.Checkpoint.catch_up.Goals as goal

pub overflow_add-known_count : goal.overflow_add-known_count
overflow_add-known_count c =
    let comes = subst (λ (db : Database). ComesFrom db c.args.db.now) (sym c.self.view_is) c.requires in
    let within = entries-fit c.self.inside.db c.args.db.now c.self.inside.entries.items comes in
    omega (arith, within, c.events-count.ensures.count, c.events.ensures.count, c.len.ensures)
