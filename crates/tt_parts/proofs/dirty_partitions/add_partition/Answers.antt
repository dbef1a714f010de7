-- The columns of the table get one value more.
use Rattle.std.proofs.Common.{[], ◌∷◌, pos, sym, ap, subst, ◌∙◌}
use Rattle.std.specs.Option.{unwrap_or}
use Rattle.std.specs.Ordering.{int_cmp}
use Rattle.std.specs.FinMap.Entries as sorted
use Rattle.tt_parts.specs.Sets.{ValuesByColumn, ValuesByTable, with_value_in, AddsPartitions}
use Rattle.tt_parts.proofs.SearchLemmas.{AddsPartitions-put}
use Rattle.tt_parts.proofs.dirty_partitions.add_partition.Goals as goal

pub returns : goal.returns
returns c =
    let before = c.args.tables.now in
    let p = c.args.partition in
    let number = c.args.number in
    let is = c.in_ok-change_at.ensures
    ∙ ap (λ (empty : ValuesByColumn). sorted.put int_cmp (pos p.table) (with_value_in p.column (record { value = p.value; since = number }) (unwrap_or (sorted.find int_cmp (pos p.table) before) empty)) before) c.new.ensures in
    subst (λ (t : ValuesByTable). AddsPartitions before (p ∷ []) number t) (sym is) (AddsPartitions-put before p number)
