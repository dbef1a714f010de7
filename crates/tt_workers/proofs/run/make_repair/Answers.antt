-- the repair is made beside the calls, and their records are pushed
use Rattle.std.proofs.Common.{◌≡◌, ◌+◌, length, map, sym, ap, subst, ◌∙◌, arith}
use Rattle.tt_repair.specs.Repairing.{HasRepaired}
use Rattle.tt_workload.specs.History.{edit_of_slot}
use Rattle.tt_workers.specs.Merging.{AreOf}
use Rattle.tt_workers.specs.Running.{MadeCalls}
use Rattle.tt_workers.proofs.QueueLemmas.{queues_of_all, made_calls}
use Rattle.tt_workers.proofs.run.make_repair.Goals as goal

pub repair_beside-requires-clause-few : goal.repair_beside-requires-clause-few
repair_beside-requires-clause-few g c κs lives =
    omega (arith, c.requires.few, c.requires.few_records, c.len.ensures, c.args.records.now.records.ok.0, ap length c.as_slice-meanwhile.ensures)

pub merge-requires : goal.merge-requires
merge-requires g c =
    let runs = c.in_ok-administrator_run.runs.items in
    record {
      of = queues_of_all (λ queue. queue.items) g.L.Naming.limits (c.len.result + 1) c.as_slice-meanwhile.result.now c.args.workers.items (map (λ run. run.worker) runs)
          (map (λ run. run.answers.items) runs) c.in_ok-workers.queues.items c.in_ok-administrator_run.ensures.worked c.in_ok-workers.ensures.answers
          (subst (λ calls. AreOf (length c.args.workers.items) calls) (sym c.as_slice-meanwhile.ensures) c.requires.of);
    }

pub returns-clause-made : goal.returns-clause-made
returns-clause-made g c =
    let limits = g.L.Naming.limits in
    let plan = c.args.plan.now in
    let before = c.args.records.now in
    let now = c.merge.new.records in
    let olds = c.args.workers.items in
    let news = c.in_ok-workers.workers.items in
    let middle = c.in_ok-administrator.administrator in
    let last = c.in_ok-administrator_run.administrator_run.worker in
    let runs = c.in_ok-administrator_run.runs.items in
    let edits : c.in_ok-edits.edits ≡ map (edit_of_slot before.records.items) plan.edits =
    c.in_ok-edits.ensures ∙ (λ i. map (edit_of_slot (c.deref.ensures.value i)) (c.as_slice.ensures i)) in
    let number : c.len.result + 1 ≡ length before.records.items + 1 = omega (arith, c.len.ensures, before.records.ok.0) in
    let made = made_calls (λ queue. queue.items) limits (c.len.result + 1) c.as_slice-meanwhile.result.now olds news (map (λ run. run.worker) runs) (map (λ run. run.answers.items) runs)
    c.in_ok-workers.queues.items before now c.in_ok-administrator_run.ensures.worked c.in_ok-workers.ensures.workers c.in_ok-workers.ensures.answers c.in_ok-merge.ensures.records
    c.in_ok-merge.ensures.fronts in
    record {
      middle = middle;
      last = last;
      news = news;
      looks = c.in_ok-administrator.ensures.looks;
      repaired = subst (λ list. HasRepaired g.L.Naming.tables limits list middle last c.in_ok-administrator_run.administrator_run.repaired) edits c.in_ok-administrator_run.ensures.repaired;
      calls = subst (λ n. MadeCalls limits n plan.meanwhile olds news before now) number
          (subst (λ calls. MadeCalls limits (c.len.result + 1) calls olds news before now) c.as_slice-meanwhile.ensures made);
      all_is = c.in_ok-push.ensures.items;
    }
