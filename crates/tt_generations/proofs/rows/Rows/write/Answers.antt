-- One table gets the effect, so all tables do.
use Rattle.std.proofs.Common.{◌≡◌, subst, ap, ◌∙◌, set}
use Rattle.tt_versions.specs.Sides.{LineagesByKey, current_of, next_of, is_split, all_written_from, whole_among}
use Rattle.tt_versions.specs.RowsByWrites.{AddsRowWritesOf}
use Rattle.tt_generations.specs.Rows.{TablesByPosition, versions_at}
use Rattle.tt_generations.proofs.RowsLemmas.{PutsTable, PutsTable-set, found-added, AddsEffect-put, WritesCurrent-put}
use Rattle.tt_generations.proofs.SplitRowsLemmas.{KeepsSplitRows-put}
use Rattle.tt_generations.proofs.rows.Rows.write.Goals as goal

pub returns : goal.returns
returns c =
    let before = c.args.self.now in
    let new = c.write_all.new.self in
    let after = set c.add_tables.new.tables.items c.from-position.result new in
    let effect = c.args.effect in
    let added = c.in_ok-add_tables.ensures in
    let puts = subst (λ (r : TablesByPosition). PutsTable c.args.table new r after) c.self.view_is
    (PutsTable-set c.self.inside.tables.items c.add_tables.new.tables.items c.from-position.result c.args.table new c.from-position.ensures (λ t _ i. added.same i t) added.room) in
    let old : c.index_mut.result.now ≡ versions_at before c.args.table =
    found-added c.self.inside.tables.items c.add_tables.new.tables.items c.from-position.result c.index_mut.result.now added.same added.room c.index_mut.ensures.value
    ∙ (λ i. versions_at (c.self.view_is i) (c.from-position.ensures i)) in
    let is = c.in_ok-write_all.ensures in
    record {
      current = AddsEffect-put before after c.args.table new c.args.time effect puts
          (subst (λ (k : LineagesByKey). AddsRowWritesOf (current_of k) (current_of new) effect c.args.time) old is.current_adds);
      written = WritesCurrent-put before after c.args.table new c.args.time effect puts (is.current ∙ ap (λ (k : LineagesByKey). all_written_from effect c.args.time (current_of k)) old);
      split = KeepsSplitRows-put before after c.args.table new c.args.time effect puts (is.split ∙ ap is_split old)
          (is.next ∙ ap (λ (k : LineagesByKey). all_written_from (whole_among (is_split k) effect) c.args.time (next_of k)) old);
    }
