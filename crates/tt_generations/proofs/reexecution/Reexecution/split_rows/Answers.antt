-- Rows that are split already stay as they are.
use Rattle.std.proofs.Common.{List, refl, subst, sym, ◌∙◌}
use Rattle.tt_values.specs.declared.row_id.RowId.{RowId}
use Rattle.tt_generations.specs.Rows.{SplitsRows}
use Rattle.tt_generations.proofs.SplitRowsLemmas.{SplitsRows-all_already}
use Rattle.tt_generations.proofs.reexecution.Reexecution.split_rows.Goals as goal

pub returns-else-not-are_split : goal.returns-else-not-are_split
returns-else-not-are_split c =
    let rows = c.args.rows.now in
    let same = c.are_same-are_split.ensures c.if-not-are_split.false ∙ c.deref.ensures.value in
    record {
      rows = subst (λ (rs : List RowId). SplitsRows rows rows rs c.args.time) (sym same) (SplitsRows-all_already rows c.args.self.now.reexecuted.items c.args.time c.requires);
      reexecuted = c.in_ok-extend_from_slice.ensures.items;
      replies = refl;
      rows_touched = refl;
    }
