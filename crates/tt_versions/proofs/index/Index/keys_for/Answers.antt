-- The keys picked cover what matches, and no equality says fewer.
use Rattle.std.proofs.Common.{◌≡◌, None, Some, slice_get, option_map, sym, ap, ◌∙◌}
use Rattle.std.proofs.lemmas.Option.{slice_get-get_or}
use Rattle.tt_versions.specs.declared.keys.Keys.{Keys}
use Rattle.tt_versions.specs.Keys.{all_of, size}
use Rattle.tt_versions.specs.Index.{CoversEqual, CoversMatches}
use Rattle.tt_versions.proofs.IndexLemmas.{IfSome-map, IfSome-either, CoversMatches-equal, IsLeastBefore-start, IsLeastBefore-more, IsSmallest-all, SayNoSet-all}
use Rattle.tt_versions.proofs.index.Index.keys_for.Goals as goal

pub loop-equal-init : goal.loop-equal-init
loop-equal-init c = record { covers = tt; smallest = IsLeastBefore-start c.args.reach None c.args.self.now.columns c.args.equals.now }

pub loop-equal-preserved : goal.loop-equal-preserved
loop-equal-preserved c =
    let index = c.args.self.now in
    let equals = c.args.equals.now in
    let reach = c.args.reach in
    let equal = c.equal-item.result in
    let at = c.loop-equal.equal-index in
    let there : slice_get equals at ≡ Some equal = slice_get-get_or equals at equal c.loop-equal-test.true ∙ ap Some (sym c.equal-item.is) in
    let before = c.loop-equal.smallest in
    let said = c.keys_equated.result in
    let after = c.smaller-smallest.result in
    record {
      covers = IfSome-either after before said (λ (keys : Keys). CoversMatches reach index (all_of keys) equals) c.smaller-smallest.ensures.either c.loop-equal.invariant.covers
          (IfSome-map said (λ (keys : Keys). CoversEqual reach index (all_of keys) equal) (λ (keys : Keys). CoversMatches reach index (all_of keys) equals) (λ keys. CoversMatches-equal reach index (all_of keys) equals at equal there)
          c.keys_equated.ensures.covers);
      smallest = IsLeastBefore-more reach index.columns equals at equal (option_map size before) (option_map size after) (option_map size said) there c.keys_equated.ensures.same c.smaller-smallest.ensures.first c.smaller-smallest.ensures.second c.loop-equal.invariant.smallest;
    }

pub returns-clause-smallest : goal.returns-clause-smallest
returns-clause-smallest c = IsSmallest-all c.args.reach c.args.self.now c.args.equals.now c.loop-equal.equal-index c.loop-equal.smallest c.loop-equal-test.false c.loop-equal.invariant.smallest

pub returns-clause-none : goal.returns-clause-none
returns-clause-none c = SayNoSet-all c.args.reach c.args.self.now c.args.equals.now c.loop-equal.equal-index c.loop-equal.smallest c.loop-equal-test.false c.loop-equal.invariant.smallest
