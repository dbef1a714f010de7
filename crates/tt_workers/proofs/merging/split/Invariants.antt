-- the workers and the answers so far, and those of the runs that are left
use Rattle.std.proofs.Common.{◌≡◌, ◌+◌, ◌≤◌, ◌++◌, map, length, vec_len, vec_capacity}
use Rattle.tt_workers.proofs.merging.split.Given as goal

abbrev pub invariant-loop-worker : goal.invariant-loop-worker
invariant-loop-worker g l = let rest = l.worker-iterator.rest.items in record {
  workers : l.workers.items ++ map (λ run. run.worker) rest ≡ map (λ run. run.worker) l.fn.runs.items;
  answers : map (λ queue. queue.items) l.queues.items ++ map (λ run. run.answers.items) rest ≡ map (λ run. run.answers.items) l.fn.runs.items;
  room_of_workers : vec_len l.workers + length rest ≤ vec_capacity l.workers;
  room_of_queues : vec_len l.queues + length rest ≤ vec_capacity l.queues;
}
