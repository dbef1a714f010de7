use Rattle.std.proofs.Common.{arith, ◌≡◌, ◌-◌, ◌<◌, length, get_or, true, false, sym, ap, ◌∙◌, int_cmp}
use Rattle.std.specs.Ordering.{is_gt}
use Rattle.tt_pages.proofs.MapEntriesLemmas.{rank_of-le, rank_of-at_most, rank_of-above}
use Rattle.tt_pages.proofs.map.page.rank_in.Goals as goal

pub loop-rank-init : goal.loop-rank-init
loop-rank-init g c = (omega arith, rank_of-le c.args.key.now c.args.page.now)

pub loop-rank-preserved : goal.loop-rank-preserved
loop-rank-preserved g c =
    let key = c.args.key.now in
    let page = c.args.page.now in
    let here : c.loop-rank.rank - 4 < length page = omega (arith, c.loop-rank.invariant.0, c.loop-rank-test.true) in
    let not : is_gt (int_cmp key (get_or page (c.loop-rank.rank - 4) c.index-page-rank.result).0) ≡ false = ap is_gt (sym c.cmp.ensures) ∙ sym c.is_gt.ensures ∙ c.if-not-is_gt.true in
    (omega (arith, c.loop-rank.invariant.0), rank_of-at_most key page c.index-page-rank.result (c.loop-rank.rank - 4) here not)

pub loop-rank-2-preserved : goal.loop-rank-2-preserved
loop-rank-2-preserved g c =
    let key = c.args.key.now in
    let page = c.args.page.now in
    let here : c.loop-rank-2.rank - 1 < length page = omega (arith, c.loop-rank-2.invariant.0, c.loop-rank-2-test.true) in
    let not : is_gt (int_cmp key (get_or page (c.loop-rank-2.rank - 1) c.index-page-rank-in-loop-rank-2.result).0) ≡ false = ap is_gt (sym c.cmp-in-loop-rank-2.ensures) ∙ sym c.is_gt-in-loop-rank-2.ensures ∙ c.if-not-is_gt-2.true in
    (omega (arith, c.loop-rank-2.invariant.0), rank_of-at_most key page c.index-page-rank-in-loop-rank-2.result (c.loop-rank-2.rank - 1) here not)

pub returns-else-not-is_gt-2 : goal.returns-else-not-is_gt-2
returns-else-not-is_gt-2 g c =
    let key = c.args.key.now in
    let page = c.args.page.now in
    let here : c.loop-rank-2.rank - 1 < length page = omega (arith, c.loop-rank-2.invariant.0, c.loop-rank-2-test.true) in
    let above : is_gt (int_cmp key (get_or page (c.loop-rank-2.rank - 1) c.index-page-rank-in-loop-rank-2.result).0) ≡ true = ap is_gt (sym c.cmp-in-loop-rank-2.ensures) ∙ sym c.is_gt-in-loop-rank-2.ensures ∙ c.if-not-is_gt-2.false in
    omega (arith, c.loop-rank-2.invariant.1, c.loop-rank-2-test.true, rank_of-above key page c.index-page-rank-in-loop-rank-2.result (c.loop-rank-2.rank - 1) c.requires here above)

pub returns-after-loop-rank-2 : goal.returns-after-loop-rank-2
returns-after-loop-rank-2 g c = omega (arith, c.loop-rank-2.invariant.1, c.loop-rank-2-test.false)
