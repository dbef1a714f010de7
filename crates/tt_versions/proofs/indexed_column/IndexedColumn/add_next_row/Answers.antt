-- The row is listed already, or is put into the past.
use Rattle.std.proofs.Common.{ℤ, w64, rules, Option, refl, sym, ap, subst, ◌∙◌}
use mir.Val.{to_z, of_z}
use Rattle.std.proofs.lemmas.Int.{to_z-of_z}
use Rattle.std.proofs.lemmas.Result.{on_ok_weaker}
use Rattle.std.specs.Option.{option_copied}
use Rattle.tt_versions.specs.Index.{digest_at, has_now, has_past, MovesKey, PutsKey}
use Rattle.tt_versions.proofs.ColumnLemmas.{moves-nothing, moves-none, moves-in_past, moves-in_now, moves-put}
use Rattle.tt_versions.proofs.indexed_column.IndexedColumn.add_next_row.Goals as goal

pub returns-then-have_same_value : goal.returns-then-have_same_value
returns-then-have_same_value c =
    let before = c.args.self.now in
    let to = digest_at before.position (option_copied c.args.current) in
    let same = c.if-have_same_value.ensures refl in
    subst (λ (aside : Option ℤ). MovesKey c.args.key to aside before before) same (moves-nothing c.args.key (option_copied c.args.current) to before c.requires refl)

pub returns-in_default : goal.returns-in_default
returns-in_default c =
    let before = c.args.self.now in
    subst (λ (aside : Option ℤ). MovesKey c.args.key (digest_at before.position (option_copied c.args.current)) aside before before) (c.in_default.ensures)
    (moves-none c.args.key (option_copied c.args.current) before c.requires)

pub returns-then-has_key_under : goal.returns-then-has_key_under
returns-then-has_key_under c =
    let before = c.args.self.now in
    let row = option_copied c.args.current in
    let there = ap (λ (d : ℤ). has_past before d c.args.key) (sym (to_z-of_z w64 c.in-Some.digest (search rules)))
    ∙ ap (λ (k : ℤ). has_past before (to_z w64 (of_z w64 c.in-Some.digest)) k) (sym (to_z-of_z w64 c.args.key c.ranges.key)) ∙ sym c.has_key_under.ensures ∙ c.if-has_key_under.true in
    subst (λ (aside : Option ℤ). MovesKey c.args.key (digest_at before.position row) aside before before) c.in-Some.ensures
    (moves-in_past c.args.key c.in-Some.digest row before c.requires there)

pub returns-then-has_key_under-2 : goal.returns-then-has_key_under-2
returns-then-has_key_under-2 c =
    let before = c.args.self.now in
    let row = option_copied c.args.current in
    let there = ap (λ (d : ℤ). has_now before d c.args.key) (sym (to_z-of_z w64 c.in-Some.digest (search rules)))
    ∙ ap (λ (k : ℤ). has_now before (to_z w64 (of_z w64 c.in-Some.digest)) k) (sym (to_z-of_z w64 c.args.key c.ranges.key)) ∙ sym c.has_key_under-2.ensures ∙ c.if-has_key_under-2.true in
    subst (λ (aside : Option ℤ). MovesKey c.args.key (digest_at before.position row) aside before before) c.in-Some.ensures
    (moves-in_now c.args.key c.in-Some.digest row before c.requires there)

pub returns : goal.returns
returns c =
    let before = c.args.self.now in
    let after = record before { past = c.put_key.new.sets } in
    let row = option_copied c.args.current in
    let digest_is = to_z-of_z w64 c.in-Some.digest (search rules) in
    let key_is = to_z-of_z w64 c.args.key c.ranges.key in
    let absent = ap (λ (d : ℤ). has_now before d c.args.key) (sym digest_is)
    ∙ ap (λ (k : ℤ). has_now before (to_z w64 (of_z w64 c.in-Some.digest)) k) (sym key_is) ∙ sym c.has_key_under-2.ensures ∙ c.if-has_key_under-2.false in
    on_ok_weaker c.put_key.result
    (λ puts.
    let put = subst (λ (k : ℤ). PutsKey c.in-Some.digest k before.past after.past) key_is
    (subst (λ (d : ℤ). PutsKey d (to_z w64 (of_z w64 c.args.key)) before.past after.past) digest_is puts) in
    subst (λ (aside : Option ℤ). MovesKey c.args.key (digest_at before.position row) aside before after) c.in-Some.ensures
    (moves-put c.args.key c.in-Some.digest row before after c.requires absent refl refl put))
    c.put_key.ensures
