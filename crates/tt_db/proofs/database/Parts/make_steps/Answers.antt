-- Steps leave the catalog.
use Rattle.tt_generations.proofs.RunLemmas.{catalog-after_steps}
use Rattle.tt_db.proofs.database.Parts.make_steps.Goals as goal

pub returns-in_err-push_steps-clause-catalog : goal.returns-in_err-push_steps-clause-catalog
returns-in_err-push_steps-clause-catalog c = catalog-after_steps c.args.count c.args.self.now.generations c.steps.new.self c.in_ok-rerun.ensures.state

pub returns-clause-catalog : goal.returns-clause-catalog
returns-clause-catalog c = catalog-after_steps c.args.count c.args.self.now.generations c.steps.new.self c.in_ok-rerun.ensures.state
