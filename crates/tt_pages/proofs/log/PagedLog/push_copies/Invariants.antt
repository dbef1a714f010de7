-- the copies so far, and those that are left
use Rattle.std.proofs.Common.{◌≡◌, ◌≤◌, ◌-◌, ◌++◌, replicate}
use Rattle.tt_pages.proofs.log.PagedLog.push_copies.Given as goal

abbrev pub invariant-loop-left : goal.invariant-loop-left
invariant-loop-left g l = record {
  items : l.self ≡ l.fn.self ++ replicate (l.fn.count - l.left) l.fn.item;
  few : l.left ≤ l.fn.count;
}

abbrev pub decreases-loop-left : goal.decreases-loop-left
decreases-loop-left g l = l.left
