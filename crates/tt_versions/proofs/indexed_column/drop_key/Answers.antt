-- The set has the key, and loses it.
use Rattle.std.proofs.Common.{ℤ, w64, is_some, true, ◌≡◌, ap, subst, ◌∙◌, sym}
use mir.Val.{to_z, of_z}
use Rattle.std.proofs.lemmas.Int.{to_z-of_z}
use Rattle.std.proofs.lemmas.Result.{on_ok_weaker}
use Rattle.std.specs.Ordering.{int_cmp}
use Rattle.std.specs.FinMap.Entries.{find}
use Rattle.tt_versions.specs.Index.{has_key, keys_under, DropsKey}
use Rattle.tt_versions.proofs.KeysLemmas.{drops-changed, has_key-there}
use Rattle.tt_versions.proofs.indexed_column.drop_key.Goals as goal

pub change-requires : goal.change-requires
change-requires c =
    subst (λ (d : ℤ). is_some (find int_cmp d c.args.sets.now) ≡ true) (sym (to_z-of_z w64 c.args.digest c.ranges.digest)) (has_key-there c.args.digest c.args.key c.args.sets.now c.requires)

pub returns : goal.returns
returns c =
    let key = to_z w64 (of_z w64 c.args.key) in
    let digest = to_z w64 (of_z w64 c.args.digest) in
    let sets = c.args.sets.now in
    let key_is = to_z-of_z w64 c.args.key c.ranges.key in
    let digest_is = to_z-of_z w64 c.args.digest c.ranges.digest in
    let has = ap (λ (d : ℤ). has_key (keys_under d sets) key) digest_is ∙ ap (λ (k : ℤ). has_key (keys_under c.args.digest sets) k) key_is ∙ c.requires in
    on_ok_weaker c.change.result
    (λ changes.
    subst (λ (k : ℤ). DropsKey c.args.digest k sets c.change.new.self) key_is
    (subst (λ (d : ℤ). DropsKey d key sets c.change.new.self) digest_is (drops-changed digest key sets c.change.new.self has changes)))
    c.change.ensures.ok
