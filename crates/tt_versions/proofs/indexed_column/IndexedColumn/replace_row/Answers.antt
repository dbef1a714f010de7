-- The key leaves the old row's digest and comes to the new one's.
use Rattle.std.proofs.Common.{◌≡◌, ℤ, w64, Option, refl, sym, ap, subst, ◌∙◌}
use Rattle.std.proofs.lemmas.Int.{to_z-of_z}
use Rattle.std.proofs.lemmas.Result.{on_ok_weaker}
use Rattle.std.specs.Option.{option_copied}
use Rattle.tt_versions.specs.Index.{digest_at, has_now, is_digest, MovesKey, LeavesDigest, ComesToDigest}
use Rattle.tt_versions.proofs.ColumnLemmas.{moves-nothing, moves-replaced}
use Rattle.tt_versions.proofs.indexed_column.IndexedColumn.replace_row.Goals as goal

pub returns-then-have_same_value : goal.returns-then-have_same_value
returns-then-have_same_value c =
    let before = c.args.self.now in
    let to = digest_at before.position (option_copied c.args.new) in
    let same = c.if-have_same_value.ensures refl in
    subst (λ (from : Option ℤ). MovesKey c.args.key to from before before) (sym same) (moves-nothing c.args.key (option_copied c.args.old) to before c.requires same)

pub returns : goal.returns
returns c =
    let before = c.args.self.now in
    let between = c.leave.new.self in
    let after = c.come.new.self in
    let key_is = to_z-of_z w64 c.args.key c.ranges.key in
    let from = c.digest_in-from.result in
    let to = c.digest_in-to.result in
    let at : (digest : ℤ) → has_now before digest c.args.key ≡ is_digest digest from = λ digest. c.requires.now digest ∙ ap (is_digest digest) (sym c.digest_in-from.ensures) in
    let leaves = subst (λ (k : ℤ). LeavesDigest k from before between) key_is c.in_ok-leave.ensures in
    on_ok_weaker c.come.result
    (λ comes.
    let moves = moves-replaced c.args.key from to before between after at leaves (subst (λ (k : ℤ). ComesToDigest k to between after) key_is comes) in
    subst (λ (o : Option ℤ). MovesKey c.args.key o (digest_at before.position (option_copied c.args.old)) before after) c.digest_in-to.ensures
    (subst (λ (o : Option ℤ). MovesKey c.args.key to o before after) c.digest_in-from.ensures moves))
    c.come.ensures
