-- the first answer of the worker's queue is taken
use Rattle.tt_workers.proofs.QueueLemmas.{queues_popped}
use Rattle.tt_workers.proofs.merging.next_of.Goals as goal

pub returns-clause-rest : goal.returns-clause-rest
returns-clause-rest c =
    queues_popped (λ queue. queue.items) c.args.queues.now.items c.args.worker c.index_mut.result.now c.pop_front.new.self c.requires.some c.requires.within c.index_mut.ensures.value
    c.pop_front.ensures.rest
