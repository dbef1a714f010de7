-- One more empty table shows nothing else.
use Rattle.std.proofs.Common.{◌++◌, ◌∷◌, [], ap, ◌∙◌}
use Rattle.tt_versions.specs.Sides.{LineagesByKey}
use Rattle.tt_generations.specs.Rows.{versions_at}
use Rattle.tt_generations.proofs.RowsLemmas.{versions_at-push}
use Rattle.tt_generations.proofs.rows.add_tables.Goals as goal

pub loop-alloc-preserved : goal.loop-alloc-preserved
loop-alloc-preserved c =
    let tables = c.loop-alloc.tables.items in
    ap versions_at (c.in_ok-push.ensures.items ∙ ap (λ (t : LineagesByKey). tables ++ t ∷ []) c.in_ok-table.ensures) ∙ versions_at-push tables ∙ c.loop-alloc.invariant
