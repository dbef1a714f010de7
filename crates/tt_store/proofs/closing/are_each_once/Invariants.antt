-- each number so far is borne once
use Rattle.std.proofs.Common.{◌≡◌, ℕ, ◌<◌, ◌≤◌}
use Rattle.tt_store.specs.Closing.{bearers}
use Rattle.tt_store.proofs.closing.are_each_once.Given as goal

abbrev pub invariant-loop-before : goal.invariant-loop-before
invariant-loop-before g l = (number : ℕ) → 0 < number → number ≤ l.before → bearers number l.workers ≡ 1
