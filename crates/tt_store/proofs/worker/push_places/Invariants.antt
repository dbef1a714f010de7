-- with the places that are left the list is as it shall be
use Rattle.std.proofs.Common.{◌≡◌, ◌+◌, ◌-◌, ◌≤◌, ◌++◌, vec_len, vec_capacity}
use Rattle.tt_store.specs.Calls.{numbers_from}
use Rattle.tt_store.proofs.worker.push_places.Given as goal

abbrev pub invariant-loop-place : goal.invariant-loop-place
invariant-loop-place l = record {
  all : l.places.items ++ numbers_from (l.place + 1) (l.to - l.place) ≡ l.fn.places.items ++ numbers_from (l.fn.from + 1) (l.fn.to - l.fn.from);
  within : l.place ≤ l.to;
  room : vec_len l.places + (l.to - l.place) ≤ vec_capacity l.places;
}
