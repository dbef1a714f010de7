-- A list that stands there twice in a row makes the same rows dirty as one of it.
use Rattle.tt_values.specs.declared.row_id.RowId.{RowId}
use Rattle.std.proofs.Common.{◌<◌, length}
use Rattle.tt_generations.proofs.RepairLemmas.{SameMembers-then, shown-without_repeat, All-without_repeat}
use Rattle.tt_generations.proofs.repair.add_rows_shown.Goals as goal

pub add_each_row_shown-requires-clause-tables : goal.add_each_row_shown-requires-clause-tables
add_each_row_shown-requires-clause-tables c = All-without_repeat (λ (r : RowId). r.table < length c.args.dirty.now.catalog) _ _ c.without_repeat.ensures c.requires.tables

pub returns-clause-dirty : goal.returns-clause-dirty
returns-clause-dirty c = SameMembers-then _ _ _ c.in_ok-add_each_row_shown.ensures.dirty (shown-without_repeat c.args.dirty.now c.args.rows.now c.without_repeat.result.now c.args.reexecuted.now c.args.time c.without_repeat.ensures)
