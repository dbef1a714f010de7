-- What the index lists covers the rows of all times and both sides.
use Rattle.std.proofs.Common.{subst}
use Rattle.tt_versions.specs.Sides.{LineagesByKey}
use Rattle.tt_versions.specs.KeyRange.{HaveKeysWithin}
use Rattle.tt_versions.proofs.RangeLemmas.{HaveKeysWithin-covers}
use Rattle.tt_versions.proofs.lineages.Lineages.range_for.Goals as goal

pub returns : goal.returns
returns c =
    let m = c.self.inside.indexed in
    let range = c.range_for.result in
    let equals = c.args.equals.now in
    subst (λ (t : LineagesByKey). HaveKeysWithin t range equals) c.self.view_is (HaveKeysWithin-covers m.index range equals m.entries c.self.invariant.indexed.listed c.range_for.ensures.has)
