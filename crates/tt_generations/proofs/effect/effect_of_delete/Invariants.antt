-- the effect so far and that of the rows that are left are all
use Rattle.std.proofs.Common.{◌≡◌, ◌++◌, drop}
use Rattle.tt_versions.specs.Sides.{rows_behind}
use Rattle.tt_generations.specs.Effect.{delete_effect}
use Rattle.tt_generations.proofs.effect.effect_of_delete.Given as goal

abbrev pub invariant-loop-key : goal.invariant-loop-key
invariant-loop-key l =
    l.effect ++ delete_effect (rows_behind (drop l.key-index l.rows.items))
    ≡ delete_effect (rows_behind l.rows.items)
