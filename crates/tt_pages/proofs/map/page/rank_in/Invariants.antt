use Rattle.std.proofs.Common.{◌≤◌, length}
use Rattle.tt_pages.specs.MapEntries.{rank_of}
use Rattle.tt_pages.proofs.map.page.rank_in.Given as goal

-- the place isn't behind the entries that are left
abbrev pub invariant-loop-rank : goal.invariant-loop-rank
invariant-loop-rank g l = (l.rank ≤ length l.page) × (rank_of l.key l.page ≤ l.rank)

abbrev pub decreases-loop-rank : goal.decreases-loop-rank
decreases-loop-rank g l = l.rank

abbrev pub invariant-loop-rank-2 : goal.invariant-loop-rank-2
invariant-loop-rank-2 g l = (l.rank ≤ length l.page) × (rank_of l.key l.page ≤ l.rank)

abbrev pub decreases-loop-rank-2 : goal.decreases-loop-rank-2
decreases-loop-rank-2 g l = l.rank
