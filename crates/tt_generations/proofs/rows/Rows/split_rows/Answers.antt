-- One more row is split, and at the end none is left.
use Rattle.std.proofs.Common.{List, subst, sym}
use Rattle.std.proofs.lemmas.List.{drop_all}
use Rattle.tt_values.specs.declared.row_id.RowId.{RowId}
use Rattle.tt_generations.specs.Rows.{SplitsRows}
use Rattle.tt_generations.proofs.SplitRowsLemmas.{SplitsRows-none, SplitsRows-next}
use Rattle.tt_generations.proofs.rows.Rows.split_rows.Goals as goal

pub loop-row-preserved : goal.loop-row-preserved
loop-row-preserved c after rest =
    c.loop-row.invariant after
    (SplitsRows-next c.args.rows.now c.loop-row.row-index _ c.loop-row.self c.split_row.new.self after c.args.time c.loop-row-test.true c.in_ok-split_row.ensures rest)

pub returns : goal.returns
returns c =
    let nothing = drop_all c.loop-row.row-index c.args.rows.now c.loop-row-test.false in
    c.loop-row.invariant c.loop-row.self
    (subst (λ (ks : List RowId). SplitsRows c.loop-row.self c.loop-row.self ks c.args.time) (sym nothing) (SplitsRows-none c.loop-row.self c.args.time))
