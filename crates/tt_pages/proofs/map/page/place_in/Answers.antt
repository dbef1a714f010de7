use Rattle.std.proofs.Common.{rules, sym, ap, ◌∙◌}
use Rattle.std.specs.Ordering.{is_eq}
use Rattle.tt_pages.proofs.MapEntriesLemmas.{is_place, is_gap-other, is_gap-end}
use Rattle.tt_pages.proofs.map.page.place_in.Goals as goal
use Rattle.tt_pages.proofs.map.page.place_in.Goals.{else-rank-page-via-then-rank-page+else-is_eq, else-rank-page-via-else-rank-page}

pub returns-then-is_eq-clause-present : goal.returns-then-is_eq-clause-present
returns-then-is_eq-clause-present g c =
    is_place c.args.key.now c.args.page.now c.index-page-rank.result c.rank_in-rank.result c.rank_in-rank.ensures (search rules) (ap is_eq (sym c.cmp.ensures) ∙ sym c.is_eq.ensures ∙ c.if-is_eq.true)

pub returns-else-rank-page-clause-absent : goal.returns-else-rank-page-clause-absent
returns-else-rank-page-clause-absent g c = elim c.else-rank-page.branch [
  | else-rank-page-via-then-rank-page+else-is_eq w ↦ is_gap-other c.args.key.now c.args.page.now w.index-page-rank.result c.rank_in-rank.result c.requires c.rank_in-rank.ensures (search rules) (ap is_eq (sym w.cmp.ensures) ∙ sym w.is_eq.ensures ∙ w.if-is_eq.false)
  | else-rank-page-via-else-rank-page w ↦ is_gap-end c.args.key.now c.args.page.now c.rank_in-rank.result c.rank_in-rank.ensures (search rules)
]
