-- The number that is found is the one that is seen, and members have one.
use Rattle.std.proofs.Common.{is_some, sym, ap, subst, ◌∙◌}
use Rattle.tt_parts.specs.declared.partition.Partition.{Partition}
use Rattle.tt_parts.specs.Dirty.{DirtyTables, NumbersAgree, partition_since}
use Rattle.tt_parts.proofs.SearchLemmas.{partition_since-found, NumbersAgree-found}
use Rattle.tt_parts.proofs.dirty.Dirty.partition_since.Goals as goal

pub returns-clause-since : goal.returns-clause-since
returns-clause-since c =
    let p : Partition = record { table = c.args.table; column = c.args.column; value = c.args.value.now } in
    c.since.ensures ∙ sym (partition_since-found c.self.inside.rows c.self.inside.partitions p) ∙ ap (λ (d : DirtyTables). partition_since d.since p) c.self.view_is

pub returns-clause-member : goal.returns-clause-member
returns-clause-member c =
    let agree = subst (λ (d : DirtyTables). NumbersAgree d.dirty d.since) c.self.view_is (NumbersAgree-found c.self.inside.rows c.self.inside.partitions) in
    ap is_some (returns-clause-since c) ∙ agree.partitions (record { table = c.args.table; column = c.args.column; value = c.args.value.now })
