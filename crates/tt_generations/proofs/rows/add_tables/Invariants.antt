-- the tables show what they showed
use Rattle.std.proofs.Common.{◌≡◌, ◌+◌, ◌-◌, length}
use Rattle.tt_generations.specs.Rows.{versions_at}
use Rattle.tt_generations.proofs.rows.add_tables.Given as goal

abbrev pub invariant-loop-alloc : goal.invariant-loop-alloc
invariant-loop-alloc l = versions_at l.tables.items ≡ versions_at l.initial.tables.items

abbrev pub decreases-loop-alloc : goal.decreases-loop-alloc
decreases-loop-alloc l = l.position + 1 - length l.tables.items
