-- The administrator's thread takes its worker, and refers to the store.
use denote.Exit.{yes}
use denote.Param.{param}
use denote.Param.Send.{IsSend, IsSync, param_send, arg_send, sendable}
use denote.RattleType.{RattleType}
use Rattle.std.proofs.Crossing.{crosses}
use Rattle.tt_store.specs.contracts.gate.NoGate as no_gate
use Rattle.tt_store.specs.contracts.store.Store as store
use Rattle.tt_store.proofs.Crossing.{worker_send, store_sync, ref_send}
use Rattle.tt_service_example.specs.contracts.service.Shift as shift
use Rattle.tt_service_example.proofs.Threads.{error_send, no_gate_sync, heap_sync, administrator_send}
use Rattle.tt_service_example.proofs.service.work.Goals as goal

pub join-repaired-requires-send-A : goal.join-repaired-requires-send-A
join-repaired-requires-send-A g c κs within =
    let w = worker_send (param 0 g.row.L) g.L.Naming g.L.Ledger g.L.Protocol c.type_bounds.send-L c.type_bounds.sync-L in
    let a : IsSend (shift.the_row (param 0 g.row.L) g.L.Naming g.L.Ledger g.L.Protocol) =
    search (error_send, crosses, sendable) depth 60 fits 50000 in
    param_send 3 _ (arg_send _ yes _ a)

pub join-repaired-requires-send-F : goal.join-repaired-requires-send-F
join-repaired-requires-send-F g c κs within =
    let w = worker_send (param 0 g.row.L) g.L.Naming g.L.Ledger g.L.Protocol c.type_bounds.send-L c.type_bounds.sync-L in
    let b : (R : RattleType) → IsSend R → IsSync (store.the_row (param 0 g.row.L) no_gate.the_row R g.L.Naming g.L.Ledger g.L.Protocol) =
    λ R r. store_sync (param 0 g.row.L) R g.L.Naming g.L.Ledger g.L.Protocol c.type_bounds.send-L c.type_bounds.sync-L r no_gate.the_row no_gate_sync in
    let t = c.type_bounds.sync-R in
    param_send 1 _ (arg_send _ yes _ (administrator_send _ _ _ _ _ _ _ _ _ _ _ _ _ t heap_sync (b _ (ref_send _ _ _ t)) w))
