-- A search finds one partition more, and the one that is remembered still.
use Rattle.std.proofs.Common.{[], ◌∷◌, subst}
use Rattle.tt_parts.specs.Sets.{ValuesByTable, AddsPartitions}
use Rattle.tt_parts.proofs.SearchLemmas.{last-stays}
use Rattle.tt_parts.proofs.dirty_partitions.DirtyPartitions.add.Goals as goal

pub returns : goal.returns
returns c = subst (λ (before : ValuesByTable). AddsPartitions before (c.args.partition ∷ []) c.args.number c.add_partition.new.tables) c.self.view_is c.in_ok-add_partition.ensures

pub invariant_of-self-2 : goal.invariant_of-self-2
invariant_of-self-2 c =
    let remembered = last-stays c.self.inside.last c.self.inside.tables c.add_partition.new.tables (c.args.partition ∷ []) c.args.number c.in_ok-add_partition.ensures c.self.invariant in
    rw c.take-last.ensures.value remembered
