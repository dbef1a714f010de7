-- The equalities are read on the columns of the table.
use Rattle.std.proofs.Common.{◌≡◌, List, ◌&&◌, not, sym, ap, ◌∙◌}
use Rattle.std.specs.List.{list_any}
use Rattle.tt_values.specs.declared.table.Column.{Column}
use Rattle.tt_values.specs.Tables.{Tables}
use Rattle.tt_parts.specs.Partitions.{equates_partition, partition_of, is_partition_in}
use Rattle.tt_parts.specs.Dirty.{DirtyTables, columns_in, has_row_of}
use Rattle.tt_parts.proofs.DirtySetLemmas.{clear_where_equated, clear_where_none}
use Rattle.tt_parts.proofs.dirty.Dirty.is_clear_where.Goals as goal

pub returns-then-reads_partition : goal.returns-then-reads_partition
returns-then-reads_partition c =
    let table = c.args.table in
    let equals = c.args.equals.now in
    let all : c.columns_in-columns.result.now ≡ columns_in c.args.self.now.catalog table =
    c.columns_in-columns.ensures ∙ ap (λ (tables : Tables). columns_in tables table) (c.get.ensures ∙ ap (λ (d : DirtyTables). d.catalog) c.self.view_is) in
    let members = ap (λ (d : DirtyTables). d.dirty.partitions) c.self.view_is in
    let some = sym (ap (λ (cs : List Column). list_any (equates_partition cs) equals) all) ∙ sym c.reads_partition.ensures ∙ c.if-reads_partition.true in
    c.has_other_equated.ensures
    ∙ (λ j. list_any (λ q. equates_partition (all j) q && not (is_partition_in (members j) (partition_of table q))) equals)
    ∙ sym (clear_where_equated c.args.self.now.dirty table (columns_in c.args.self.now.catalog table) equals some)

pub returns-else-reads_partition : goal.returns-else-reads_partition
returns-else-reads_partition c =
    let table = c.args.table in
    let equals = c.args.equals.now in
    let all : c.columns_in-columns.result.now ≡ columns_in c.args.self.now.catalog table =
    c.columns_in-columns.ensures ∙ ap (λ (tables : Tables). columns_in tables table) (c.get.ensures ∙ ap (λ (d : DirtyTables). d.catalog) c.self.view_is) in
    let none = sym (ap (λ (cs : List Column). list_any (equates_partition cs) equals) all) ∙ sym c.reads_partition.ensures ∙ c.if-reads_partition.false in
    ap not (c.has_table.ensures ∙ ap (λ (d : DirtyTables). has_row_of d.dirty table) c.self.view_is)
    ∙ sym (clear_where_none c.args.self.now.dirty table (columns_in c.args.self.now.catalog table) equals none)
