-- An empty database is consistent.
use Rattle.std.proofs.Common.{subst}
use Rattle.tt_values.specs.Tables.{IsCatalog}
use Rattle.tt_db.proofs.DatabaseLemmas.{IsConsistent-empty}
use Rattle.tt_db.proofs.database.Db.new.Goals as goal

pub invariant_of-result : goal.invariant_of-result
invariant_of-result c =
    let catalog = subst IsCatalog c.get.ensures c.len.ensures.sound in
    rw (c.new.ensures, c.new-2.ensures, c.new-3.ensures) (IsConsistent-empty c.from_arc-catalog.result c.args.limits catalog c.requires)
