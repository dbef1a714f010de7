-- The conditions have no equality on a partition column.
use Rattle.std.proofs.Common.{List, not, ap, ◌∙◌}
use Rattle.std.specs.List.{list_any}
use Rattle.tt_values.specs.declared.table.Column.{Column}
use Rattle.tt_parts.specs.Partitions.{equates_partition}
use Rattle.tt_parts.specs.Dirty.{columns_in}
use Rattle.tt_generations.proofs.SinceLemmas.{is_read_all}
use Rattle.tt_generations.proofs.causes.equates_none.Goals as goal

pub returns : goal.returns
returns c =
    ap not (c.reads_partition.ensures ∙ ap (λ (cs : List Column). list_any (equates_partition cs) c.args.equals.now) c.columns.ensures)
    ∙ is_read_all c.args.table (columns_in c.args.dirty.now.catalog c.args.table) c.args.equals.now
