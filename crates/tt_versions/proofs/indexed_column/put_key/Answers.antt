-- The set under the digest gets the key: the one that is there, or a new one.
use Rattle.std.proofs.Common.{◌≡◌, ℤ, [], Option, None, w64, sym, ap, subst, ◌∙◌}
use mir.Val.{to_z, of_z}
use Rattle.std.proofs.lemmas.Int.{to_z-of_z}
use Rattle.std.proofs.lemmas.Result.{on_ok_weaker}
use Rattle.std.specs.Ordering.{int_cmp}
use Rattle.std.specs.FinMap.Entries.{find, put}
use Rattle.std.specs.Option.{unwrap_or}
use Rattle.tt_versions.specs.Index.{KeySet, PutsKey}
use Rattle.tt_versions.proofs.KeysLemmas.{puts-key, puts-changed, nothing-there}
use Rattle.tt_versions.proofs.indexed_column.put_key.Goals as goal

pub returns-then-branch : goal.returns-then-branch
returns-then-branch c =
    let key = to_z w64 (of_z w64 c.args.key) in
    let digest = to_z w64 (of_z w64 c.args.digest) in
    let sets = c.args.sets.now in
    let changed = c.in_ok-change_if_there.ensures in
    let puts = puts-changed digest key tt sets c.change_if_there.new.self (sym changed.found ∙ c.if-branch.true) changed.ok in
    subst (λ (k : ℤ). PutsKey c.args.digest k sets c.change_if_there.new.self) (to_z-of_z w64 c.args.key c.ranges.key)
    (subst (λ (d : ℤ). PutsKey d key sets c.change_if_there.new.self) (to_z-of_z w64 c.args.digest c.ranges.digest) puts)

pub returns : goal.returns
returns c =
    let key = to_z w64 (of_z w64 c.args.key) in
    let digest = to_z w64 (of_z w64 c.args.digest) in
    let sets = c.args.sets.now in
    let left = c.in_ok-change_if_there.ensures in
    let none : find int_cmp digest sets ≡ None = nothing-there digest sets (sym left.found ∙ c.if-branch.false) in
    let same = left.stays none in
    on_ok_weaker c.put-2.result
    (λ is.
    let puts = puts-key digest key tt sets c.put-2.new.self c.new-keys.result (ap (λ (o : Option KeySet). unwrap_or o []) none ∙ sym c.new-keys.ensures) (is ∙ (λ i. put int_cmp digest (c.in_ok-put.ensures.ok i) (same i))) in
    subst (λ (k : ℤ). PutsKey c.args.digest k sets c.put-2.new.self) (to_z-of_z w64 c.args.key c.ranges.key)
    (subst (λ (d : ℤ). PutsKey d key sets c.put-2.new.self) (to_z-of_z w64 c.args.digest c.ranges.digest) puts))
    c.put-2.ensures.ok
