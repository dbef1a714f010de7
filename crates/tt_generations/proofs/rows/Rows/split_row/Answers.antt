-- A row that is split already stays. Another one is split in its table, and the other tables stay.
use Rattle.std.proofs.Common.{◌≡◌, false, sym, subst, ap, ◌∙◌, set, rules, w64}
use Rattle.std.proofs.lemmas.Int.{to_z-of_z}
use Rattle.tt_versions.specs.Sides.{current_of, next_of, is_split, rolled_back_from, with_key}
use Rattle.tt_generations.specs.Rows.{TablesByPosition, versions_at}
use Rattle.tt_generations.proofs.RowsLemmas.{PutsTable, PutsTable-set, found-added}
use Rattle.tt_generations.proofs.SplitRowsLemmas.{SplitsRows-already, SplitsRows-put}
use Rattle.tt_generations.proofs.rows.Rows.split_row.Goals as goal

pub returns-then-is_split : goal.returns-then-is_split
returns-then-is_split c =
    let row = c.args.row in
    SplitsRows-already c.args.self.now row.table row.key c.args.time (let same = to_z-of_z w64 row.key (search rules) in
    (λ i. is_split (sym c.table.ensures i) (sym same i)) ∙ sym c.is_split.ensures.split ∙ c.if-is_split.true)

pub returns : goal.returns
returns c =
    let row = c.args.row in
    let before = c.args.self.now in
    let new = c.split_row_back.new.self in
    let after = set c.add_tables.new.tables.items c.from-position.result new in
    let added = c.in_ok-add_tables.ensures in
    let puts = subst (λ (r : TablesByPosition). PutsTable row.table new r after) c.self.view_is
    (PutsTable-set c.self.inside.tables.items c.add_tables.new.tables.items c.from-position.result row.table new c.from-position.ensures (λ t _ i. added.same i t) added.room) in
    let old : c.index_mut.result.now ≡ versions_at before row.table =
    found-added c.self.inside.tables.items c.add_tables.new.tables.items c.from-position.result c.index_mut.result.now added.same added.room c.index_mut.ensures.value
    ∙ (λ i. versions_at (c.self.view_is i) (c.from-position.ensures i)) in
    let same = to_z-of_z w64 row.key (search rules) in
    let whole : is_split (versions_at before row.table) row.key ≡ false =
    (λ i. is_split (sym c.table.ensures i) (sym same i)) ∙ sym c.is_split.ensures.split ∙ c.if-is_split.false in
    let is = c.in_ok-split_row_back.ensures in
    SplitsRows-put before after row.table row.key c.args.time new puts whole (is.current ∙ ap current_of old)
    (is.next ∙ (λ i. rolled_back_from (same i) c.args.time (next_of (old i))))
    (is.split ∙ (λ i. with_key (same i) (is_split (old i))))
