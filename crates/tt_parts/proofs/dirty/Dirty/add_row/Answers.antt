-- The row gets dirty with its partitions, that of its key among them; without memory no row stays.
use Rattle.std.proofs.Common.{ℤ, List, w64, sym, ap, subst, ◌∙◌}
use Rattle.std.proofs.lemmas.Int.{to_z-of_z}
use Rattle.std.specs.Option.{option_copied}
use Rattle.tt_values.specs.declared.table.Column.{Column}
use Rattle.tt_values.specs.Tables.{Tables}
use Rattle.tt_parts.specs.Dirty.{DirtyTables, SameMembers, IsSinceWithRow, columns_in, partitions_with_row, with_row_in}
use Rattle.tt_parts.specs.Sets.{dirty_found, since_found, AddsRow, AddsPartitions}
use Rattle.tt_parts.proofs.SearchLemmas.{SameMembers-with_row, IsSinceWithRow-with_row, HaveKeyPartitions-with_row, NumbersAgree-found}
use Rattle.tt_parts.proofs.dirty.Dirty.add_row.Goals as goal

adds_row : (c : goal.In-Ok) → AddsRow c.self.inside.rows c.args.table c.args.key c.args.number c.add_row_to.new.rows
adds_row c = subst (λ (key : ℤ). AddsRow c.self.inside.rows c.args.table key c.args.number c.add_row_to.new.rows) (to_z-of_z w64 c.args.key c.ranges.key) c.in-Ok.ensures.rows

adds_partitions : (c : goal.In-Ok) → AddsPartitions c.self.inside.partitions (partitions_with_row c.args.table (columns_in c.self.inside.catalog c.args.table) c.args.key (option_copied c.args.before) (option_copied c.args.after)) c.args.number c.add_row_to.new.partitions
adds_partitions c =
    let columns = sym c.table_in-def.ensures.columns ∙ ap (λ (tables : Tables). columns_in tables c.args.table) c.get.ensures in
    subst (λ (cs : List Column). AddsPartitions c.self.inside.partitions (partitions_with_row c.args.table cs c.args.key (option_copied c.args.before) (option_copied c.args.after)) c.args.number c.add_row_to.new.partitions) columns
    (subst (λ (key : ℤ). AddsPartitions c.self.inside.partitions (partitions_with_row c.args.table c.table_in-def.result.now.columns key (option_copied c.args.before) (option_copied c.args.after)) c.args.number c.add_row_to.new.partitions) (to_z-of_z w64 c.args.key c.ranges.key) c.in-Ok.ensures.partitions)

pub invariant_of-self : goal.invariant_of-self
invariant_of-self c =
    HaveKeyPartitions-with_row c.self.inside.rows c.add_row_to.new.rows c.self.inside.partitions c.add_row_to.new.partitions c.args.table (columns_in c.self.inside.catalog c.args.table) c.args.key (option_copied c.args.before) (option_copied c.args.after) c.args.number
    (adds_row c) (adds_partitions c) c.self.invariant

pub returns-in-Ok-clause-dirty : goal.returns-in-Ok-clause-dirty
returns-in-Ok-clause-dirty c =
    subst (λ (d : DirtyTables). SameMembers (dirty_found c.add_row_to.new.rows c.add_row_to.new.partitions) (with_row_in d c.args.table c.args.key (option_copied c.args.before) (option_copied c.args.after))) c.self.view_is
    (SameMembers-with_row c.self.inside.rows c.add_row_to.new.rows c.self.inside.partitions c.add_row_to.new.partitions c.args.table (columns_in c.self.inside.catalog c.args.table) c.args.key (option_copied c.args.before) (option_copied c.args.after) c.args.number
    (adds_row c) (adds_partitions c))

pub returns-in-Ok-clause-since : goal.returns-in-Ok-clause-since
returns-in-Ok-clause-since c =
    subst (λ (d : DirtyTables). IsSinceWithRow d.since c.args.table (columns_in d.catalog c.args.table) c.args.key (option_copied c.args.before) (option_copied c.args.after) c.args.number (since_found c.add_row_to.new.rows c.add_row_to.new.partitions)) c.self.view_is
    (IsSinceWithRow-with_row c.self.inside.rows c.add_row_to.new.rows c.self.inside.partitions c.add_row_to.new.partitions c.args.table (columns_in c.self.inside.catalog c.args.table) c.args.key (option_copied c.args.before) (option_copied c.args.after) c.args.number
    (adds_row c) (adds_partitions c))

pub returns-in-Ok-clause-agree : goal.returns-in-Ok-clause-agree
returns-in-Ok-clause-agree c = NumbersAgree-found c.add_row_to.new.rows c.add_row_to.new.partitions

pub returns-in-Err-clause-agree : goal.returns-in-Err-clause-agree
returns-in-Err-clause-agree c = NumbersAgree-found c.clear.new.self c.add_row_to.new.partitions
