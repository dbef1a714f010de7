use Rattle.std.proofs.Common.{◌+◌, ◌<◌, ◌≡◌, ℕ, length, IsTrue}
use Rattle.std.specs.List.{HoldsAt}
use Rattle.std.specs.Ordering.{int_cmp, is_lt}
use Rattle.tt_pages.proofs.map.branches.branch_for.Given as goal

-- the next branch, if there is one, starts above the key
abbrev pub invariant-loop-at : goal.invariant-loop-at
invariant-loop-at g l = (l.at < length l.branches) × ((n : ℕ) → n ≡ l.at + 1 → n < length l.branches → HoldsAt (λ b. IsTrue (is_lt (int_cmp l.key b.first))) l.branches n)

abbrev pub decreases-loop-at : goal.decreases-loop-at
decreases-loop-at g l = l.at

abbrev pub invariant-loop-at-2 : goal.invariant-loop-at-2
invariant-loop-at-2 g l = (l.at < length l.branches) × ((n : ℕ) → n ≡ l.at + 1 → n < length l.branches → HoldsAt (λ b. IsTrue (is_lt (int_cmp l.key b.first))) l.branches n)

abbrev pub decreases-loop-at-2 : goal.decreases-loop-at-2
decreases-loop-at-2 g l = l.at
