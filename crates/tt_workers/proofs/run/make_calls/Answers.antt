-- the calls are made, and their records are pushed
use Rattle.std.proofs.Common.{map}
use Rattle.tt_workers.proofs.QueueLemmas.{queues_of_all, made_calls}
use Rattle.tt_workers.proofs.run.make_calls.Goals as goal

pub merge-requires : goal.merge-requires
merge-requires g c =
    let runs = c.in_ok-runs.runs.items in
    record {
      of = queues_of_all (λ queue. queue.items) g.L.Naming.limits 1 c.args.calls.now c.args.workers.items (map (λ run. run.worker) runs) (map (λ run. run.answers.items) runs)
          c.in_ok-workers.queues.items c.in_ok-runs.ensures.worked c.in_ok-workers.ensures.answers c.requires.of;
    }

pub returns-clause-made : goal.returns-clause-made
returns-clause-made g c =
    let runs = c.in_ok-runs.runs.items in
    made_calls (λ queue. queue.items) g.L.Naming.limits 1 c.args.calls.now c.args.workers.items c.in_ok-workers.workers.items (map (λ run. run.worker) runs)
    (map (λ run. run.answers.items) runs) c.in_ok-workers.queues.items c.args.records.now c.merge.new.records c.in_ok-runs.ensures.worked c.in_ok-workers.ensures.workers
    c.in_ok-workers.ensures.answers c.in_ok-merge.ensures.records c.in_ok-merge.ensures.fronts
