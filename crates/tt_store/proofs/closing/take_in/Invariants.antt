-- with the workers that are left, the lists and the share are as they shall be
use Rattle.std.proofs.Common.{◌≡◌, ◌+◌, length, All, vec_len}
use Rattle.tt_store.specs.Closing.{IsNumbered, lists_of, with_places, places_made}
use Rattle.tt_store.proofs.closing.take_in.Given as goal

abbrev pub invariant-loop-worker : goal.invariant-loop-worker
invariant-loop-worker g l = record {
  places : with_places (lists_of l.places.items) l.worker-iterator.rest.items ≡ with_places (lists_of l.fn.places.items) l.fn.workers.items;
  parts : l.whole.parts + length l.worker-iterator.rest.items ≡ l.fn.whole.parts + length l.fn.workers.items;
  amount : l.whole.amount + places_made l.worker-iterator.rest.items ≡ l.fn.whole.amount + places_made l.fn.workers.items;
  numbered : All (IsNumbered (vec_len l.places)) l.worker-iterator.rest.items;
}
