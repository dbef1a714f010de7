use Rattle.std.proofs.Common.{◌≡◌, ◌≤◌, ◌-◌, length, drop}
use Rattle.tt_pages.specs.MapWalk.{entries_after}
use Rattle.tt_pages.proofs.map.walking.rest_after.Given as goal

-- no entry that was passed is after the key
abbrev pub invariant-loop-at : goal.invariant-loop-at
invariant-loop-at g l = (l.at ≤ length l.page) × (entries_after l.key (drop l.at l.page) ≡ entries_after l.key l.page)

abbrev pub decreases-loop-at : goal.decreases-loop-at
decreases-loop-at g l = length l.page - l.at
