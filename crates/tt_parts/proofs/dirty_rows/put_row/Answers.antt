-- The key of the table gets the number.
use Rattle.std.proofs.Common.{ℤ, pos, w64, sym, ap, subst, ◌∙◌}
use mir.Val.{to_z, of_z}
use Rattle.std.proofs.lemmas.Int.{to_z-of_z}
use Rattle.std.specs.Option.{unwrap_or}
use Rattle.std.specs.Ordering.{int_cmp}
use Rattle.std.specs.FinMap.Entries as sorted
use Rattle.tt_parts.specs.declared.dirty_keys.DirtyKeys.{DirtyKeys}
use Rattle.tt_parts.specs.Sets.{KeysByTable, with_key, PutsRow}
use Rattle.tt_parts.proofs.SearchLemmas.{PutsRow-put}
use Rattle.tt_parts.proofs.dirty_rows.put_row.Goals as goal

pub returns : goal.returns
returns c =
    let before = c.args.tables.now in
    let table = c.args.table in
    let number = c.args.number in
    let key = to_z w64 (of_z w64 c.args.key) in
    let is = c.in_ok-change_at.ensures ∙ ap (λ (empty : DirtyKeys). sorted.put int_cmp (pos table) (with_key key number (unwrap_or (sorted.find int_cmp (pos table) before) empty)) before) c.new.ensures in
    subst (λ (k : ℤ). PutsRow before table k number c.change_at.new.map) (to_z-of_z w64 c.args.key c.ranges.key)
    (subst (λ (t : KeysByTable). PutsRow before table key number t) (sym is) (PutsRow-put before table key number))
