-- The next worker has a list of its own.
use Rattle.std.proofs.Common.{◌≡◌, ◌∷◌, length, vec_len, ap, arith}
use Rattle.tt_store.specs.Closing.{lists_of, with_places}
use Rattle.tt_store.proofs.ClosingLemmas.{numbered-head, numbered-tail, made-cons, put_first}
use Rattle.tt_store.proofs.closing.take_in.Goals as goal

pub index_mut-requires : goal.index_mut-requires
index_mut-requires g c =
    let is = numbered-head (vec_len c.loop-worker.places) c.loop-worker.worker-iterator.rest.items c.next.new.self.rest.items c.in-Some.worker c.in-Some.ensures.steps.0 c.loop-worker.invariant.numbered in
    omega (arith, is.some, is.within, c.number.ensures)

pub loop-worker-preserved : goal.loop-worker-preserved
loop-worker-preserved g c =
    let all = c.loop-worker.worker-iterator.rest.items in
    let rest = c.next.new.self.rest.items in
    let worker = c.in-Some.worker in
    let is : all ≡ worker ∷ rest = c.in-Some.ensures.steps.0 in
    record {
      places =
          put_first c.loop-worker.places.items c.number.result c.into_parts-own.result.0 all rest worker
          (with_places (lists_of c.args.places.now.items) c.args.workers.items) is c.number.ensures c.into_parts-own.ensures.places
          c.loop-worker.invariant.places;
      parts = omega (arith, c.merge.ensures.parts, c.into_parts-own.ensures.parts, ap length is, c.loop-worker.invariant.parts);
      amount = omega (arith, c.merge.ensures.amount, c.into_parts-own.ensures.amount, made-cons all rest worker is, c.loop-worker.invariant.amount);
      numbered = numbered-tail (vec_len c.loop-worker.places) all rest worker is c.loop-worker.invariant.numbered;
    }
