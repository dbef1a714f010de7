-- Each thread takes a worker, and leaves it with its answers. All refer to the context, the calls, and the number of the first.
use denote.Exit.{yes}
use denote.Param.{param}
use denote.Param.Send.{IsSend, param_send, param_sync, arg_send, arg_sync, sendable}
use Rattle.std.proofs.Crossing.{crosses}
use Rattle.tt_store.proofs.Crossing.{worker_send}
use Rattle.std.specs.contracts.result.Result as result
use Rattle.tt_workload.specs.contracts.run_fault.RunFault as fault
use Rattle.tt_workers.specs.contracts.work.WorkerRun as run
use Rattle.tt_workers.proofs.Crossing.{call_sync, u64_sync, answered_send, fault_send, context_sync, ref_sync, slice_ref_sync, three_sync}
use Rattle.tt_workers.proofs.threads.in_threads.Goals as goal

pub map_vec-requires-send-J : goal.map_vec-requires-send-J
map_vec-requires-send-J g c κs within =
    let w = worker_send (param 0 g.row.L) g.L.Naming g.L.Ledger g.L.Protocol c.type_bounds.send-L c.type_bounds.sync-L in
    param_send 1 _ (arg_send _ yes _ w)

pub map_vec-requires-send-X : goal.map_vec-requires-send-X
map_vec-requires-send-X g c κs within =
    let w = worker_send (param 0 g.row.L) g.L.Naming g.L.Ledger g.L.Protocol c.type_bounds.send-L c.type_bounds.sync-L in
    let a : IsSend (run.the_row (param 0 g.row.L) g.L.Naming g.L.Ledger g.L.Protocol) =
    search (answered_send, crosses, sendable) depth 60 fits 50000 in
    let b = fault_send in
    let r : IsSend (result.the_row (run.the_row (param 0 g.row.L) g.L.Naming g.L.Ledger g.L.Protocol) fault.the_row) =
    search (crosses, sendable) depth 60 fits 50000 in
    param_send 2 _ (arg_send _ yes _ r)

pub map_vec-requires-sync-F : goal.map_vec-requires-sync-F
map_vec-requires-sync-F g c κs within =
    let b = c.type_bounds in
    let x = context_sync _ _ (param 0 g.row.L) _ _ g.L.Naming g.L.Ledger g.L.Protocol b.send-L b.sync-L b.sync-G b.sync-R in
    param_sync 4 _ (arg_sync _ yes _ (three_sync (ref_sync _ _ _ x) (slice_ref_sync _ _ _ call_sync) (ref_sync _ _ _ u64_sync)))
