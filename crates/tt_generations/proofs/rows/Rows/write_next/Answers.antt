-- One table gets the effect on its next side, and the other tables stay.
use Rattle.std.proofs.Common.{◌≡◌, true, sym, subst, ap, ◌∙◌, set}
use Rattle.std.specs.List.{All}
use Rattle.tt_versions.specs.Sides.{LineagesByKey, current_of, next_of, is_split, all_written_from}
use Rattle.tt_generations.specs.Rows.{TablesByPosition, versions_at}
use Rattle.tt_generations.proofs.RowsLemmas.{PutsTable, PutsTable-set, found-added}
use Rattle.tt_generations.proofs.SplitRowsLemmas.{WritesNext-put}
use Rattle.tt_generations.proofs.rows.Rows.write_next.Goals as goal

pub write_all_next-requires : goal.write_all_next-requires
write_all_next-requires c =
    let added = c.in_ok-add_tables.ensures in
    let old : c.index_mut.result.now ≡ versions_at c.args.self.now c.args.table =
    found-added c.self.inside.tables.items c.add_tables.new.tables.items c.from-position.result c.index_mut.result.now added.same added.room c.index_mut.ensures.value
    ∙ (λ i. versions_at (c.self.view_is i) (c.from-position.ensures i)) in
    subst (λ (t : LineagesByKey). All (λ e. is_split t e.0 ≡ true) c.args.effect) (sym old) c.requires

pub returns : goal.returns
returns c =
    let before = c.args.self.now in
    let table = c.args.table in
    let new = c.write_all_next.new.self in
    let after = set c.add_tables.new.tables.items c.from-position.result new in
    let added = c.in_ok-add_tables.ensures in
    let puts = subst (λ (r : TablesByPosition). PutsTable table new r after) c.self.view_is
    (PutsTable-set c.self.inside.tables.items c.add_tables.new.tables.items c.from-position.result table new c.from-position.ensures (λ t _ i. added.same i t) added.room) in
    let old : c.index_mut.result.now ≡ versions_at before table =
    found-added c.self.inside.tables.items c.add_tables.new.tables.items c.from-position.result c.index_mut.result.now added.same added.room c.index_mut.ensures.value
    ∙ (λ i. versions_at (c.self.view_is i) (c.from-position.ensures i)) in
    let is = c.in_ok-write_all_next.ensures in
    WritesNext-put before after table new c.args.time c.args.effect puts (is.current ∙ ap current_of old)
    (is.next ∙ ap (λ (t : LineagesByKey). all_written_from c.args.effect c.args.time (next_of t)) old) (is.split ∙ ap is_split old)
