-- The partition of the key is added, and then those of the two rows.
use Rattle.std.proofs.Common.{[], ◌∷◌}
use Rattle.tt_parts.specs.Partitions.{key_partition}
use Rattle.tt_parts.proofs.SearchLemmas.{AddsPartitions-then, AddsPartitions-again, member-added, member-stays}
use Rattle.tt_parts.proofs.dirty.add_row_to.Goals as goal

pub returns-clause-partitions : goal.returns-clause-partitions
returns-clause-partitions c =
    let row = c.args.row.now in
    AddsPartitions-then (key_partition row.id.table row.id.key ∷ []) _ row.number _ _ _ c.in_ok-add_row_and_key.ensures.partitions
    (AddsPartitions-then _ _ row.number _ _ _ c.in_ok-add_parts.ensures c.in_ok-add_changed_parts.ensures)

pub add_changed_parts-requires-clause-before : goal.add_changed_parts-requires-clause-before
add_changed_parts-requires-clause-before c = AddsPartitions-again _ _ _ _ c.in_ok-add_parts.ensures

pub add_parts-requires-clause-key : goal.add_parts-requires-clause-key
add_parts-requires-clause-key c = member-added (key_partition c.args.row.now.id.table c.args.row.now.id.key) _ _ _ c.in_ok-add_row_and_key.ensures.partitions

pub add_changed_parts-requires-clause-key : goal.add_changed_parts-requires-clause-key
add_changed_parts-requires-clause-key c =
    let id = c.args.row.now.id in
    let key = key_partition id.table id.key in
    member-stays key _ _ _ _ c.in_ok-add_parts.ensures (member-added key _ _ _ c.in_ok-add_row_and_key.ensures.partitions)
