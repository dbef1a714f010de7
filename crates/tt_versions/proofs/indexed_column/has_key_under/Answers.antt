-- What is found under the digest is looked up.
use Rattle.std.proofs.Common.{w64, ℤ, [], is_some, sym, ap, ◌∙◌}
use mir.Val.{to_z, of_z}
use Rattle.std.proofs.lemmas.Int.{to_z-of_z}
use Rattle.std.specs.Option.{option_copied, unwrap_or}
use Rattle.tt_versions.specs.Index.{KeySet, has_key, keys_under}
use Rattle.tt_versions.proofs.IndexLemmas.{is_some-copied}
use Rattle.tt_versions.proofs.indexed_column.has_key_under.Goals as goal

pub returns-in-Some : goal.returns-in-Some
returns-in-Some c =
    let key = to_z w64 (of_z w64 c.args.key) in
    let found = ap (λ o. unwrap_or o []) (sym (ap option_copied c.in-Some.is) ∙ c.get.ensures) in
    c.is_some.ensures ∙ is_some-copied c.get-in-Some.result ∙ ap is_some c.get-in-Some.ensures
    ∙ ap (λ (ks : KeySet). has_key ks key) found
    ∙ ap (λ (d : ℤ). has_key (keys_under d c.args.sets.now) key) (to_z-of_z w64 c.args.digest c.ranges.digest)
    ∙ ap (λ (k : ℤ). has_key (keys_under c.args.digest c.args.sets.now) k) (to_z-of_z w64 c.args.key c.ranges.key)

pub returns-in-None : goal.returns-in-None
returns-in-None c =
    let none = ap (λ o. unwrap_or o []) (sym (ap option_copied c.in-None.is) ∙ c.get.ensures) in
    ap (λ (ks : KeySet). has_key ks c.args.key) none
    ∙ ap (λ (d : ℤ). has_key (keys_under d c.args.sets.now) c.args.key) (to_z-of_z w64 c.args.digest c.ranges.digest)
