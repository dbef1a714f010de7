-- the effect so far and that of the rows that are left are all
use Rattle.std.proofs.Common.{◌≡◌, ◌++◌, drop}
use Rattle.tt_versions.specs.Sides.{rows_behind}
use Rattle.tt_generations.specs.Effect.{update_effect}
use Rattle.tt_generations.proofs.effect.effect_of_update.Given as goal

abbrev pub invariant-loop-key : goal.invariant-loop-key
invariant-loop-key l =
    l.effect ++ update_effect l.changes (rows_behind (drop l.key-index l.rows.items))
    ≡ update_effect l.changes (rows_behind l.rows.items)
