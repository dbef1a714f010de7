-- Steps that are made together change no current answer.
use Rattle.tt_db.proofs.StepsLemmas.{steps-current}
use Rattle.tt_db.proofs.database.Db.advance_steps.Goals as goal

pub returns-clause-current : goal.returns-clause-current
returns-clause-current c = steps-current c.args.worker c.args.self.now c.steps_to_make-count.result c.make_steps.new.self c.in_ok-last.ensures.state
