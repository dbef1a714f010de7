-- Since when the partitions are dirty, or a row of the table is.
use Rattle.std.proofs.Common.{◌≡◌, true, false, List, sym, ap, ◌∙◌}
use Rattle.std.specs.List.{list_any}
use Rattle.tt_values.specs.declared.table.Column.{Column}
use Rattle.tt_parts.specs.Partitions.{equates_partition, equated_partitions}
use Rattle.tt_parts.specs.Dirty.{columns_in, partition_since}
use Rattle.tt_generations.specs.SlotCauses.{latest_of}
use Rattle.tt_generations.proofs.SinceLemmas.{read_since-all, read_since-some}
use Rattle.tt_generations.proofs.since.read_since.Goals as goal

pub returns-then-reads_partition : goal.returns-then-reads_partition
returns-then-reads_partition c =
    let dirty = c.args.dirty.now in
    let columns = columns_in dirty.catalog c.args.table in
    let any : list_any (equates_partition columns) c.args.equals.now ≡ true =
    ap (λ (cs : List Column). list_any (equates_partition cs) c.args.equals.now) (sym c.columns-columns.ensures) ∙ sym c.reads_partition.ensures ∙ c.if-reads_partition.true in
    c.last_partition.ensures
    ∙ ap (λ (cs : List Column). latest_of (partition_since dirty.since) (equated_partitions c.args.table cs c.args.equals.now)) c.columns-columns.ensures
    ∙ read_since-some dirty.since c.args.table columns c.args.equals.now any

pub returns-else-reads_partition : goal.returns-else-reads_partition
returns-else-reads_partition c =
    let dirty = c.args.dirty.now in
    let columns = columns_in dirty.catalog c.args.table in
    let none : list_any (equates_partition columns) c.args.equals.now ≡ false =
    ap (λ (cs : List Column). list_any (equates_partition cs) c.args.equals.now) (sym c.columns-columns.ensures) ∙ sym c.reads_partition.ensures ∙ c.if-reads_partition.false in
    c.table_since.ensures.since ∙ read_since-all dirty.since c.args.table columns c.args.equals.now none
