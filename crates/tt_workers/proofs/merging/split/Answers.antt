-- one run more
use Rattle.std.proofs.Common.{◌≡◌, ◌∷◌, ◌++◌, [], map, length, ap, ◌∙◌, arith}
use Rattle.std.proofs.lemmas.List.{nil_from_length}
use Rattle.tt_workers.proofs.QueueLemmas.{kept_next, kept_end, map_push}
use Rattle.tt_workers.proofs.merging.split.Goals as goal

pub loop-worker-init : goal.loop-worker-init
loop-worker-init g c =
    let is = c.into_iter-worker-iterator.ensures.into_iter_gives.0 in
    let rest = c.into_iter-worker-iterator.result.rest.items in
    record {
      workers = ap (λ xs. xs ++ map (λ run. run.worker) rest) c.in_ok-workers.ensures.items ∙ ap (map (λ run. run.worker)) is;
      answers = ap (λ qs. map (λ queue. queue.items) qs ++ map (λ run. run.answers.items) rest) c.in_ok-queues.ensures.items ∙ ap (map (λ run. run.answers.items)) is;
      room_of_workers = omega (arith, c.in_ok-workers.ensures.len, c.in_ok-workers.ensures.capacity, c.len.ensures, c.args.runs.ok.0, ap length is);
      room_of_queues = omega (arith, c.in_ok-queues.ensures.len, c.in_ok-queues.ensures.capacity, c.len-2.ensures, c.args.runs.ok.0, ap length is);
    }

pub loop-worker-preserved : goal.loop-worker-preserved
loop-worker-preserved g c =
    let l = c.loop-worker in
    let run = c.in-Some.field-0 in
    let all = l.worker-iterator.rest.items in
    let rest = c.next.new.self.rest.items in
    let is : all ≡ run ∷ rest = c.in-Some.ensures.steps.0 in
    record {
      workers = kept_next (λ run. run.worker) l.workers.items c.push_reserved.new.self.items _ all rest run l.invariant.workers is c.push_reserved.ensures.items;
      answers = kept_next (λ run. run.answers.items) (map (λ queue. queue.items) l.queues.items) (map (λ queue. queue.items) c.push_reserved-in-loop-worker.new.self.items) _ all rest run
          l.invariant.answers is (map_push (λ queue. queue.items) l.queues.items c.push_reserved-in-loop-worker.new.self.items run.answers c.push_reserved-in-loop-worker.ensures.items);
      room_of_workers = omega (arith, l.invariant.room_of_workers, c.push_reserved.ensures.len, c.push_reserved.ensures.capacity, ap length is);
      room_of_queues = omega (arith, l.invariant.room_of_queues, c.push_reserved-in-loop-worker.ensures.len, c.push_reserved-in-loop-worker.ensures.capacity, ap length is);
    }

pub returns-clause-workers : goal.returns-clause-workers
returns-clause-workers g c =
    let rest = c.loop-worker.worker-iterator.rest in
    let none : rest.items ≡ [] = nil_from_length rest.items (omega (arith, rest.ok.0, c.in-None.ensures.steps.0)) in
    kept_end (λ run. run.worker) c.loop-worker.workers.items _ rest.items c.loop-worker.invariant.workers none

pub returns-clause-answers : goal.returns-clause-answers
returns-clause-answers g c =
    let rest = c.loop-worker.worker-iterator.rest in
    let none : rest.items ≡ [] = nil_from_length rest.items (omega (arith, rest.ok.0, c.in-None.ensures.steps.0)) in
    kept_end (λ run. run.answers.items) (map (λ queue. queue.items) c.loop-worker.queues.items) _ rest.items c.loop-worker.invariant.answers none
