-- The rows found are those of the side that match.
use Rattle.std.proofs.Common.{map, ap, subst, sym, ◌∙◌}
use Rattle.tt_values.specs.declared.reply.Reply.TheVariants as replies
use Rattle.tt_values.specs.Effect.{matching_rows}
use Rattle.tt_versions.specs.Sides.{RowsOverTime, ListsRows}
use Rattle.tt_generations.proofs.GenerationsLemmas.{shows-side}
use Rattle.tt_generations.proofs.generations.Generations.answer_on.Goals as goal

pub returns : goal.returns
returns c all lists =
    let side = shows-side c.table-table.result.now c.args.self.now c.args.select.now.table c.args.side c.table-table.ensures.current c.table-table.ensures.next in
    let here = subst (λ (rows : RowsOverTime). ListsRows all rows c.args.time) (sym side) lists in
    let found = c.in_ok-matching.ensures.content all here in
    ap replies.Rows (c.in_ok-rows-2.ensures ∙ c.in_ok-rows.ensures ∙ ap (map (λ e. e.1)) (found ∙ ap (λ equals. matching_rows equals all) c.as_slice.ensures))
