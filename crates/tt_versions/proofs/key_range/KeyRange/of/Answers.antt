-- Each condition leaves what matches in the range, and narrows it to the keys that it leaves.
use Rattle.std.proofs.Common.{◌≡◌, Some, slice_get, sym, ap, ◌∙◌}
use Rattle.std.proofs.lemmas.Option.{slice_get-get_or}
use Rattle.tt_versions.proofs.IndexLemmas.{holds-at}
use Rattle.tt_versions.proofs.RangeLemmas.{LeaveUpTo-start, LeaveUpTo-more, LeaveUpTo-all}
use Rattle.tt_versions.proofs.key_range.KeyRange.of.Goals as goal

pub loop-equal-init : goal.loop-equal-init
loop-equal-init c = record {
  has = λ key row first m. c.all-range.ensures key;
  narrow = LeaveUpTo-start c.all-range.result c.args.equals.now;
}

pub loop-equal-preserved : goal.loop-equal-preserved
loop-equal-preserved c =
    let equals = c.args.equals.now in
    let equal = c.equal-item.result in
    let at = c.loop-equal.equal-index in
    let there : slice_get equals at ≡ Some equal = slice_get-get_or equals at equal c.loop-equal-test.true ∙ ap Some (sym c.equal-item.is) in
    record {
      has = λ key row first m. c.narrowed-range.ensures.has key row first (holds-at equals at equal row there m) (c.loop-equal.invariant.has key row first m);
      narrow = LeaveUpTo-more equals at equal c.loop-equal.range c.narrowed-range.result there c.narrowed-range.ensures.narrow c.loop-equal.invariant.narrow;
    }

pub returns-clause-narrowest : goal.returns-clause-narrowest
returns-clause-narrowest c = LeaveUpTo-all c.args.equals.now c.loop-equal.equal-index c.loop-equal.range c.loop-equal-test.false c.loop-equal.invariant.narrow
