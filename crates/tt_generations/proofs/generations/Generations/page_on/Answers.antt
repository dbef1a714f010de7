-- The rows found are a page of those of the side that match.
use Rattle.std.proofs.Common.{nat_lt, length, take, map, ap, subst, sym, ◌∙◌}
use Rattle.tt_values.specs.Content.{RowsByKey}
use Rattle.tt_values.specs.Effect.{matching_rows}
use Rattle.tt_versions.specs.Sides.{RowsOverTime, ListsRows}
use Rattle.tt_versions.specs.Pages.{those_after}
use Rattle.tt_generations.proofs.GenerationsLemmas.{shows-side}
use Rattle.tt_generations.proofs.generations.Generations.page_on.Goals as goal

pub returns : goal.returns
returns c all lists =
    let side = shows-side c.table-table.result.now c.args.self.now c.args.select.now.table c.args.side c.table-table.ensures.current c.table-table.ensures.next in
    let here = subst (λ (rows : RowsOverTime). ListsRows all rows c.args.time) (sym side) lists in
    let found = c.in_ok-found.ensures.content all here in
    let matching = ap (λ equals. matching_rows equals all) c.as_slice.ensures in
    let rows = c.in_ok-rows-2.ensures ∙ c.in_ok-rows.ensures ∙ ap (map (λ e. e.1)) (found.rows ∙ ap (λ (es : RowsByKey). take c.args.most (those_after c.args.after es)) matching) in
    let more = found.more ∙ ap (λ (es : RowsByKey). nat_lt c.args.most (length (those_after c.args.after es))) matching in
    λ i. record { rows = rows i; more = more i }
