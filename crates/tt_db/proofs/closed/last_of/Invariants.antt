-- what is kept so far and what is left are the last generations
use Rattle.std.proofs.Common.{◌≡◌, drop, ◌++◌}
use Rattle.tt_db.proofs.closed.last_of.Given as goal

abbrev pub invariant-loop-position : goal.invariant-loop-position
invariant-loop-position l = drop l.first l.closed ≡ l.last ++ drop l.position l.closed
