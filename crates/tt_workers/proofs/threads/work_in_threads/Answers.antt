-- no thread has ended in a fault
use denote.Param.{param}
use Rattle.std.proofs.Common.{List, sym, subst, arith}
use Rattle.tt_store.specs.Workers.{WorkerState}
use Rattle.tt_workers.specs.Calls.{Works, AllEnd}
use Rattle.tt_workers.specs.declared.answered_call.AnsweredCall.{AnsweredCall}
use Rattle.tt_workers.specs.contracts.work.WorkerRun as run
use Rattle.tt_workers.proofs.ThreadsLemmas.{all_work, ends_each}
use Rattle.tt_workers.proofs.threads.work_in_threads.Goals as goal

pub collect_runs-requires-clause-faults : goal.collect_runs-requires-clause-faults
collect_runs-requires-clause-faults g c i d lt =
    let results = c.in_ok-results.results in c.in_ok-results.ensures.faults i d (omega (arith, lt, c.in_ok-results.ensures.count, results.ok.0))

pub returns-clause-worked : goal.returns-clause-worked
returns-clause-worked g c =
    let limits = g.L.Naming.limits in
    let olds = c.args.workers.items in
    let results = c.in_ok-results.results in
    let worker : (run.the_row (param 0 g.row.L) g.L.Naming g.L.Ledger g.L.Protocol).Denot → WorkerState = λ left. left.worker in
    let answers : (run.the_row (param 0 g.row.L) g.L.Naming g.L.Ledger g.L.Protocol).Denot → List AnsweredCall = λ left. left.answers.items in
    let holds : WorkerState → (run.the_row (param 0 g.row.L) g.L.Naming g.L.Ledger g.L.Protocol).Denot → Type 0 =
    λ old left. Works limits c.args.first c.args.calls.now old (worker left) (answers left) in
    let ends : AllEnd holds olds results.items =
    ends_each holds olds results.items (omega (arith, c.in_ok-results.ensures.count, results.ok.0, c.args.workers.ok.0)) (λ i w d lt. c.in_ok-results.ensures.worked i d w lt) in
    all_work limits c.args.first c.args.calls.now worker answers olds c.in_ok-runs.runs.items (subst (λ rs. AllEnd holds olds rs) (sym c.in_ok-runs.ensures.runs) ends)
