-- the keys so far and those of the effect that is left are all
use Rattle.std.proofs.Common.{◌≡◌, ◌++◌, drop}
use Rattle.tt_generations.specs.Effect.{rows_of_effect}
use Rattle.tt_generations.proofs.effect.add_rows.Given as goal

abbrev pub invariant-loop-key : goal.invariant-loop-key
invariant-loop-key l = l.rows ++ rows_of_effect l.table (drop l.key-index l.effect) ≡ l.fn.rows ++ rows_of_effect l.table l.effect
