use Rattle.std.proofs.Common.{◌≡◌, ◌++◌, take}
use Rattle.tt_pages.proofs.map.page.add_copies.Given as goal

-- the copies so far are those of the entries passed
abbrev pub invariant-loop-key : goal.invariant-loop-key
invariant-loop-key g l = l.page.items ≡ l.initial.page.items ++ take l.key-index l.entries
