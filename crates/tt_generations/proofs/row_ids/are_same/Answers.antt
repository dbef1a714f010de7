-- Lists of one length with the same rows in turn are the same.
use Rattle.std.proofs.Common.{◌∙◌, sym}
use Rattle.tt_generations.proofs.RowIdsLemmas.{same_lists}
use Rattle.tt_generations.proofs.row_ids.are_same.Goals as goal

pub returns-then-first-second : goal.returns-then-first-second
returns-then-first-second c same = same_lists c.args.first.now c.args.second.now c.if-first-second.true (sym c.are_same_pairwise.ensures ∙ same)
