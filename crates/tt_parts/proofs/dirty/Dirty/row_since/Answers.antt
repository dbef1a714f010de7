-- The number that is found is the one that is seen, and members have one.
use Rattle.std.proofs.Common.{is_some, w64, sym, ap, subst, ◌∙◌}
use Rattle.std.proofs.lemmas.Int.{to_z-of_z}
use Rattle.tt_parts.specs.Dirty.{DirtyTables, NumbersAgree, row_since}
use Rattle.tt_parts.specs.Sets.{row_since_in}
use Rattle.tt_parts.proofs.SearchLemmas.{row_since-found, NumbersAgree-found}
use Rattle.tt_parts.proofs.dirty.Dirty.row_since.Goals as goal

pub returns-clause-since : goal.returns-clause-since
returns-clause-since c =
    c.since.ensures ∙ ap (row_since_in c.self.inside.rows c.args.table) (to_z-of_z w64 c.args.key c.ranges.key)
    ∙ sym (row_since-found c.self.inside.rows c.self.inside.partitions c.args.table c.args.key)
    ∙ ap (λ (d : DirtyTables). row_since d.since c.args.table c.args.key) c.self.view_is

pub returns-clause-member : goal.returns-clause-member
returns-clause-member c =
    let agree = subst (λ (d : DirtyTables). NumbersAgree d.dirty d.since) c.self.view_is (NumbersAgree-found c.self.inside.rows c.self.inside.partitions) in
    ap is_some (returns-clause-since c) ∙ agree.rows c.args.table c.args.key
