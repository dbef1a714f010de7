-- What is in reach of the search covers the rows of the time and the side.
use Rattle.std.proofs.Common.{subst}
use Rattle.tt_versions.specs.Sides.{LineagesByKey}
use Rattle.tt_versions.specs.Keys.{all_of}
use Rattle.tt_versions.specs.Index.{CoversMatches, HaveKeysIn}
use Rattle.tt_versions.proofs.IndexLemmas.{IfSome-map, HaveKeysIn-covers}
use Rattle.tt_versions.proofs.lineages.Lineages.keys_for.Goals as goal

pub returns : goal.returns
returns c =
    let m = c.self.inside.indexed in
    let equals = c.args.equals.now in
    let reach = c.reach.result in
    IfSome-map c.keys_for.result (λ keys. CoversMatches reach m.index (all_of keys) equals) (λ keys. HaveKeysIn c.args.self.now c.args.side c.args.time (all_of keys) equals)
    (λ keys covers. subst (λ (t : LineagesByKey). HaveKeysIn t c.args.side c.args.time (all_of keys) equals) c.self.view_is
    (HaveKeysIn-covers reach m.index m.latest (all_of keys) equals m.entries c.args.side c.args.time c.reach.ensures c.self.invariant.indexed covers))
    c.keys_for.ensures.covers
