-- At the end nothing is left, and the rows are those of all entries.
use Rattle.std.proofs.Common.{arith}
use Rattle.std.proofs.lemmas.Grind.{common_steps}
use Rattle.tt_versions.specs.Sides.{side_of, rows_behind}
use Rattle.tt_versions.proofs.RowsAtLemmas.{lists_rows, lists_content}
use Rattle.tt_versions.proofs.table.Table.rows_at.Goals as goal

pub returns-clause-lists : goal.returns-clause-lists
returns-clause-lists c = lists_rows (rows_behind c.loop-key.rows.items) c.args.self.now c.args.time c.args.side (cc) (grind (arith, common_steps))

pub returns-clause-content : goal.returns-clause-content
returns-clause-content c = lists_content _ (side_of c.args.self.now c.args.side) c.args.time (returns-clause-lists c)
