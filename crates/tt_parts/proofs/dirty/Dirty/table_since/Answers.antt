-- The number that is found is the one that is seen, and tables with a dirty row have one.
use Rattle.std.proofs.Common.{is_some, sym, ap, subst, ◌∙◌}
use Rattle.tt_parts.specs.Dirty.{DirtyTables, NumbersAgree, table_since}
use Rattle.tt_parts.proofs.SearchLemmas.{table_since-found, NumbersAgree-found}
use Rattle.tt_parts.proofs.dirty.Dirty.table_since.Goals as goal

pub returns-clause-since : goal.returns-clause-since
returns-clause-since c =
    c.table_since.ensures ∙ sym (table_since-found c.self.inside.rows c.self.inside.partitions c.args.table)
    ∙ ap (λ (d : DirtyTables). table_since d.since c.args.table) c.self.view_is

pub returns-clause-member : goal.returns-clause-member
returns-clause-member c =
    let agree = subst (λ (d : DirtyTables). NumbersAgree d.dirty d.since) c.self.view_is (NumbersAgree-found c.self.inside.rows c.self.inside.partitions) in
    ap is_some (returns-clause-since c) ∙ agree.tables c.args.table
