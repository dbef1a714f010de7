-- An equality that asks for a key asks for the key of each row that matches.
use Rattle.std.proofs.Common.{◌≡◌, ℤ, Some, slice_get, w64, SFits, IsTrue, IfSome, rules, sym, ap, subst, ◌∙◌}
use Rattle.std.proofs.lemmas.Int.{to_z-of_z}
use Rattle.std.proofs.lemmas.Option.{slice_get-get_or}
use Rattle.tt_values.specs.declared.row.Row.{Row}
use Rattle.tt_values.specs.Row.{first_int}
use Rattle.tt_values.specs.Matches.{holds}
use Rattle.tt_versions.specs.Index.{IndexState, IsKeyOfMatches}
use Rattle.tt_versions.proofs.IndexLemmas.{IsKeyOfMatches-equal}
use Rattle.tt_versions.proofs.index.Index.key_for.Goals as goal

pub returns-in-Some : goal.returns-in-Some
returns-in-Some c =
    let index = c.args.self.now in
    let equals = c.args.equals.now in
    let equal = c.equal-item.result in
    let at = c.loop-equal.equal-index in
    let key = c.in-Some.key in
    let there : slice_get equals at ≡ Some equal = slice_get-get_or equals at equal c.loop-equal-test.true ∙ ap Some (sym c.equal-item.is) in
    let says = subst (λ o. IfSome o (λ (k : ℤ). (row : Row) → IsTrue (holds equal row) → first_int row.values ≡ Some k)) c.in-Some.is c.equated_key.ensures in
    let keyed : IsTrue index.is_keyed = sym (ap (λ (i : IndexState). i.is_keyed) c.self.view_is) ∙ c.if-not-self.false in
    let fits : SFits w64 key = search rules in
    subst (λ k. IsKeyOfMatches index k equals) (sym (to_z-of_z w64 key fits)) (IsKeyOfMatches-equal index key equals at equal keyed there says)
