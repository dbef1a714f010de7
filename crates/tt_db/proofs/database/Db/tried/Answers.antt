-- The repair has done all slots, and no current answer has changed.
use Rattle.tt_db.proofs.TrialLemmas.{tried-done, tried-current}
use Rattle.tt_db.proofs.database.Db.tried.Goals as goal

pub returns-in-Ok-clause-done : goal.returns-in-Ok-clause-done
returns-in-Ok-clause-done c = tried-done c.args.self.now c.args.edits c.in-Ok.trial c.in-Ok.ensures

pub returns-in-Ok-clause-current : goal.returns-in-Ok-clause-current
returns-in-Ok-clause-current c = tried-current c.args.self.now c.args.edits c.in-Ok.trial c.in-Ok.ensures
