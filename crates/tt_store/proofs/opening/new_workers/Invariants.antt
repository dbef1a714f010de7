-- the list has the workers of the first numbers, and each has its part of the ledger
use Rattle.std.proofs.Common.{◌≡◌, ◌-◌, ◌≤◌, vec_len, vec_capacity}
use Rattle.tt_store.specs.Opening.{new_workers}
use Rattle.tt_store.proofs.opening.new_workers.Given as goal

abbrev pub invariant-loop-index : goal.invariant-loop-index
invariant-loop-index g l = record {
  list : l.list.items ≡ new_workers l.index;
  within : l.index ≤ l.count;
  parts : l.whole.parts ≡ l.count - l.index;
  amount : l.whole.amount ≡ 0;
  count : vec_len l.list ≡ l.index;
  room : l.count ≤ vec_capacity l.list;
}
