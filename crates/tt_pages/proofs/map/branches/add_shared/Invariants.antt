use Rattle.std.proofs.Common.{◌≡◌, ◌++◌, take}
use Rattle.tt_pages.proofs.map.branches.add_shared.Given as goal

-- the branches so far are those that were passed
abbrev pub invariant-loop-branch : goal.invariant-loop-branch
invariant-loop-branch g l = l.to.items ≡ l.initial.to.items ++ take l.branch-index l.branches
