use Rattle.std.proofs.Common.{List, subst, ◌∙◌}
use Rattle.tt_values.specs.declared.row_id.RowId.{RowId}
use Rattle.tt_generations.specs.Reexecution.{reexecution_on, SplitsForRun}
use Rattle.tt_generations.proofs.reexecution.Reexecution.split_matched.Goals as goal

pub returns : goal.returns
returns c =
    let before = reexecution_on c.args.rows.now c.args.self.now in
    let after = reexecution_on c.split_rows.new.rows c.split_rows.new.self in
    subst (λ (ks : List RowId). SplitsForRun before after ks c.args.time) (c.as_slice.ensures ∙ c.in_ok-matched.ensures) c.in_ok-split_rows.ensures
