-- with the answers to the calls that are left the records are as they shall be
use Rattle.std.proofs.Common.{◌≡◌, ◌++◌, drop, map, length}
use Rattle.tt_workers.specs.Merging.{AreOf, merged_answers}
use Rattle.tt_workers.proofs.merging.merge.Given as goal

abbrev pub invariant-loop-call : goal.invariant-loop-call
invariant-loop-call l = let rest = drop l.call-index l.calls in let lists = map (λ queue. queue.items) l.queues.items in let all = map (λ queue. queue.items) l.fn.queues.items in record {
  records : l.records.records.items ++ map (λ a. a.answer) (merged_answers rest lists) ≡ l.fn.records.records.items ++ map (λ a. a.answer) (merged_answers l.fn.calls all);
  fronts : l.records.fronts.items ++ map (λ a. a.front) (merged_answers rest lists) ≡ l.fn.records.fronts.items ++ map (λ a. a.front) (merged_answers l.fn.calls all);
  of : AreOf (length l.queues.items) rest;
}
