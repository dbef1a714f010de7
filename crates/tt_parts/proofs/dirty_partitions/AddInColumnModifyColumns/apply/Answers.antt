-- The values of the column get one more.
use Rattle.std.proofs.Common.{pos, ap, ◌∙◌}
use Rattle.std.specs.Option.{unwrap_or}
use Rattle.std.specs.Ordering.{int_cmp}
use Rattle.std.specs.FinMap.Entries as sorted
use Rattle.tt_parts.specs.Sets.{ValuesByDigest, with_value}
use Rattle.tt_parts.proofs.dirty_partitions.AddInColumnModifyColumns.apply.Goals as goal

pub returns : goal.returns
returns c =
    let before = c.args.columns.now in
    let column = c.args.self.column in
    c.in_ok-change_at.ensures
    ∙ ap (λ (empty : ValuesByDigest). sorted.put int_cmp (pos column) (with_value c.args.self.value (unwrap_or (sorted.find int_cmp (pos column) before) empty)) before) c.new.ensures
