-- One more row gets dirty with what the tables show just before the time and at it.
use Rattle.std.proofs.Common.{◌∙◌, w64, rules}
use Rattle.std.proofs.lemmas.Int.{to_z-of_z}
use Rattle.tt_generations.proofs.RepairLemmas.{SameMembers-then, just_before-positive, shown-step}
use Rattle.tt_generations.proofs.NumbersLemmas.{GotDirtyAt-row}
use Rattle.tt_generations.proofs.repair.add_each_row_shown.Goals as goal

pub loop-row-preserved : goal.loop-row-preserved
loop-row-preserved c =
    let before = c.loop-row.dirty in
    let after = c.add_row.new.self in
    let added = c.in_ok-add_row.ensures in
    let shown = c.around.ensures in
    record {
      catalog = added.catalog ∙ c.loop-row.invariant.catalog;
      dirty = SameMembers-then _ _ _ (shown-step before after c.args.rows.now c.args.reexecuted.now c.loop-row.row-index _ c.table-table.result.now _ _ _ c.args.time c.loop-row-test.true added.catalog
          (to_z-of_z w64 _ (search rules)) c.table-table.ensures (shown.before ∙ just_before-positive c.args.time _ c.requires.room) shown.at added.dirty) c.loop-row.invariant.dirty;
      since = GotDirtyAt-row c.args.dirty.now.since before after _ _ _ _ c.args.time c.loop-row.invariant.since added.dirty added.since;
    }
