use Rattle.std.proofs.Common.{arith, ◌-◌, drop, length, length-drop, sym, ap, ◌∙◌}
use Rattle.std.specs.Ordering.{int_cmp, is_lt}
use Rattle.std.proofs.lemmas.List.{take_all, drop_all}
use Rattle.tt_pages.specs.MapWalk.{entries_after}
use Rattle.tt_pages.proofs.MapWalkLemmas.{after-place}
use Rattle.tt_pages.proofs.map.walking.rest_after.Goals as goal
use Rattle.tt_pages.proofs.map.walking.rest_after.Goals.{then-loop-at-test+else-not-is_lt, else-loop-at-test}

pub returns : goal.returns
returns g c =
    let page = c.args.page.now in
    let at = c.loop-at.at in
    take_all (length page - at) (drop at page) (omega (arith, length-drop at page)) ∙ elim c.loop-at-test.branch [
      | then-loop-at-test+else-not-is_lt w ↦
          let lt = ap (λ e. is_lt (int_cmp c.args.key.now e.0)) w.index-page-at.is ∙ ap is_lt (sym w.cmp.ensures) ∙ sym w.is_lt.ensures ∙ w.if-not-is_lt.false in
          sym (after-place c.args.key.now page at w.index-page-at.result c.requires (omega arith) w.index-page-at.is lt) ∙ c.loop-at.invariant.1
      | else-loop-at-test w ↦ sym (ap (entries_after c.args.key.now) (drop_all at page (omega arith)) ∙ sym (drop_all at page (omega arith))) ∙ c.loop-at.invariant.1
    ]
