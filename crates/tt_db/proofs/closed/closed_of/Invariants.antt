-- none of the generations so far has the number
use Rattle.std.proofs.Common.{◌≡◌, ◌==◌, drop, find}
use Rattle.tt_db.proofs.closed.closed_of.Given as goal

abbrev pub invariant-loop-position : goal.invariant-loop-position
invariant-loop-position l = find (λ c. c.number == l.number) l.closed ≡ find (λ c. c.number == l.number) (drop l.position l.closed)
