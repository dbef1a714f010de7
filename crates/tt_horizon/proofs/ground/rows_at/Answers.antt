-- The rows of the reply are those of the content.
use Rattle.std.proofs.Common.{Ok, ap, ◌∙◌}
use Rattle.tt_horizon.proofs.LayingLemmas.{rows-selected}
use Rattle.tt_horizon.proofs.ground.rows_at.Goals as goal

pub returns-in-Ok-Rows : goal.returns-in-Ok-Rows
returns-in-Ok-Rows c =
    rows-selected c.args.db.now c.in_ok-all.all c.args.table c.args.time c.in-Ok-Rows.rows c.in_ok-all.ensures
    (c.in-Ok-Rows.ensures.right ∙ ap Ok c.in-Ok-Rows.field-0-is)
