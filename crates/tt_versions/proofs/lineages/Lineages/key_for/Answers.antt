-- What the index lists covers the rows of all times and both sides.
use Rattle.std.proofs.Common.{subst}
use Rattle.tt_versions.specs.Sides.{LineagesByKey}
use Rattle.tt_versions.specs.Index.{IsKeyOfMatches, HaveKey}
use Rattle.tt_versions.proofs.IndexLemmas.{IfSome-map, HaveKey-covers}
use Rattle.tt_versions.proofs.lineages.Lineages.key_for.Goals as goal

pub returns : goal.returns
returns c =
    let m = c.self.inside.indexed in
    let equals = c.args.equals.now in
    IfSome-map c.key_for.result (λ key. IsKeyOfMatches m.index key equals) (λ key. HaveKey c.args.self.now key equals)
    (λ key covers. subst (λ (t : LineagesByKey). HaveKey t key equals) c.self.view_is (HaveKey-covers m.index key equals m.entries c.self.invariant.indexed.listed covers))
    c.key_for.ensures
