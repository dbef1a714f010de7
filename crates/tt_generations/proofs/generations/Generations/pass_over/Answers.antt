-- A run is no longer than asked.
use Rattle.std.proofs.Common.{◌≤◌, sym, subst}
use Rattle.tt_generations.proofs.RunLemmas.{undue_run-few}
use Rattle.tt_generations.proofs.generations.Generations.pass_over.Goals as goal

pub returns-clause-few : goal.returns-clause-few
returns-clause-few c = subst (λ n. n ≤ c.args.most) (sym c.pass_over.ensures.count) (undue_run-few c.args.most _)
