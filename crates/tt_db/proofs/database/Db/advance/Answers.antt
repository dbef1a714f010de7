-- The laws of repair, of the database that this one becomes.
use Rattle.std.proofs.Common.{sym, subst}
use Rattle.tt_db.specs.Database.{Database, ShowsCurrent}
use Rattle.tt_db.proofs.CurrentLemmas.{MissesNoSlot-law, ShowsCurrent-entry}
use Rattle.tt_db.proofs.database.Db.advance.Goals as goal

pub returns-in-Ok-clause-repaired : goal.returns-in-Ok-clause-repaired
returns-in-Ok-clause-repaired c = MissesNoSlot-law c.args.self.now c.args.entry.event

pub returns-in-Ok-clause-current : goal.returns-in-Ok-clause-current
returns-in-Ok-clause-current c =
    let db = c.args.self.now in
    subst (λ (next : Database). ShowsCurrent db c.args.entry.event next) (sym c.in-Ok.ensures.state) (ShowsCurrent-entry db c.args.entry)
