-- as many copies as were counted
use Rattle.std.proofs.Common.{◌≡◌, ◌≤◌, ◌++◌, replicate}
use Rattle.tt_pages.proofs.log.page.Page.push_copies.Given as goal

abbrev pub invariant-loop : goal.invariant-loop
invariant-loop g l = record {
  items : l.self-inside.items.items ≡ l.fn.self ++ replicate l.counter l.fn.item;
  within : l.counter ≤ l.count;
}
