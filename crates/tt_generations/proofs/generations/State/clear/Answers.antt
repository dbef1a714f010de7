-- No slots, and tables without rows.
use Rattle.tt_generations.proofs.GenerationsLemmas.{AreGenerations-empty}
use Rattle.tt_generations.proofs.generations.State.clear.Goals as goal

pub returns-clause-parts : goal.returns-clause-parts
returns-clause-parts c = rw (c.new.ensures, c.new-2.ensures) (AreGenerations-empty c.args.self.now.catalog c.requires)
