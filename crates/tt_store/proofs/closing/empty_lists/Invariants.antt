-- as many lists as were counted
use Rattle.std.proofs.Common.{◌≡◌, ◌≤◌, [], replicate, vec_len, vec_capacity}
use Rattle.tt_store.specs.Closing.{lists_of}
use Rattle.tt_store.proofs.closing.empty_lists.Given as goal

abbrev pub invariant-loop : goal.invariant-loop
invariant-loop l = record {
  empty : lists_of l.lists.items ≡ replicate l.counter [];
  count : vec_len l.lists ≡ l.counter;
  within : l.counter ≤ l.count;
  room : l.count ≤ vec_capacity l.lists;
}
