-- No slots, and tables without rows.
use Rattle.std.proofs.Common.{subst}
use Rattle.tt_values.specs.Tables.{IsCatalog}
use Rattle.tt_generations.proofs.GenerationsLemmas.{AreGenerations-empty}
use Rattle.tt_generations.proofs.generations.Generations.new.Goals as goal

pub invariant_of-result : goal.invariant_of-result
invariant_of-result c =
    let catalog = subst IsCatalog c.get.ensures c.len.ensures.sound in
    rw (c.new.ensures, c.new-2.ensures) (AreGenerations-empty c.args.catalog catalog)
