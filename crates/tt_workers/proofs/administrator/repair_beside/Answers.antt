-- The workers go to one thread and the administrator to another, and come back with what they have made.
use denote.Exit.{yes}
use denote.Param.{param}
use denote.Param.Send.{IsSend, param_send, arg_send, sendable}
use denote.RattleType.{RattleType}
use Rattle.std.proofs.Crossing.{crosses, Vec-send}
use Rattle.std.specs.contracts.result.Result as result
use Rattle.tt_store.proofs.Crossing.{worker_send, ref_send}
use Rattle.tt_workers.specs.contracts.work.WorkerRun as run
use Rattle.tt_workers.proofs.Crossing.{call_sync, u64_sync, answered_send, fault_send, context_sync, slice_ref_send, four_send}
use Rattle.tt_workers.proofs.administrator.repair_beside.Goals as goal

pub join-runs-requires-send-F : goal.join-runs-requires-send-F
join-runs-requires-send-F g c κs within =
    let b = c.type_bounds in
    let w = worker_send (param 0 g.row.L) g.L.Naming g.L.Ledger g.L.Protocol b.send-L b.sync-L in
    let x = context_sync _ _ (param 0 g.row.L) _ _ g.L.Naming g.L.Ledger g.L.Protocol b.send-L b.sync-L b.sync-G b.sync-R in
    param_send 1 _ (arg_send _ yes _ (four_send (ref_send _ _ _ x) (Vec-send _ w) (slice_ref_send _ _ _ call_sync) (ref_send _ _ _ u64_sync)))

pub join-runs-requires-send-A : goal.join-runs-requires-send-A
join-runs-requires-send-A g c κs within =
    let w = worker_send (param 0 g.row.L) g.L.Naming g.L.Ledger g.L.Protocol c.type_bounds.send-L c.type_bounds.sync-L in
    let a : IsSend (run.the_row (param 0 g.row.L) g.L.Naming g.L.Ledger g.L.Protocol) =
    search (answered_send, crosses, sendable) depth 60 fits 50000 in
    let v = Vec-send _ a in
    let b = fault_send in
    param_send 3 _ (arg_send _ yes _ (result_send _ _ v b))
  where
    result_send : (A B : RattleType) → IsSend A → IsSend B → IsSend (result.the_row A B)
    result_send A B a b = search (crosses, sendable) depth 20
