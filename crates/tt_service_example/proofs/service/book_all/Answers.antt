-- A clerk's thread takes its worker and leaves it, and refers to the store.
use denote.Exit.{yes}
use denote.Param.{param}
use denote.Param.Send.{IsSend, IsSync, param_send, param_sync, arg_send, arg_sync, sendable}
use denote.RattleType.{RattleType}
use Rattle.std.proofs.Crossing.{crosses}
use Rattle.tt_store.specs.contracts.gate.NoGate as no_gate
use Rattle.tt_store.specs.contracts.store.Store as store
use Rattle.tt_store.proofs.Crossing.{worker_send, store_sync, ref_send}
use Rattle.tt_service_example.specs.contracts.service.Shift as shift
use Rattle.tt_service_example.proofs.Threads.{error_send, no_gate_sync, heap_sync, clerk_sync}
use Rattle.tt_service_example.proofs.service.book_all.Goals as goal

pub map_vec-requires-send-J : goal.map_vec-requires-send-J
map_vec-requires-send-J g c κs within =
    let w = worker_send (param 0 g.row.L) g.L.Naming g.L.Ledger g.L.Protocol c.type_bounds.send-L c.type_bounds.sync-L in
    param_send 1 _ (arg_send _ yes _ w)

pub map_vec-requires-send-X : goal.map_vec-requires-send-X
map_vec-requires-send-X g c κs within =
    let w = worker_send (param 0 g.row.L) g.L.Naming g.L.Ledger g.L.Protocol c.type_bounds.send-L c.type_bounds.sync-L in
    let a : IsSend (shift.the_row (param 0 g.row.L) g.L.Naming g.L.Ledger g.L.Protocol) =
    search (error_send, crosses, sendable) depth 60 fits 50000 in
    param_send 2 _ (arg_send _ yes _ a)

pub map_vec-requires-sync-F : goal.map_vec-requires-sync-F
map_vec-requires-sync-F g c κs within =
    let b : (R : RattleType) → IsSend R → IsSync (store.the_row (param 0 g.row.L) no_gate.the_row R g.L.Naming g.L.Ledger g.L.Protocol) =
    λ R r. store_sync (param 0 g.row.L) R g.L.Naming g.L.Ledger g.L.Protocol c.type_bounds.send-L c.type_bounds.sync-L r no_gate.the_row no_gate_sync in
    let t = c.type_bounds.sync-R in
    param_sync 4 _ (arg_sync _ yes _ (clerk_sync _ _ _ _ _ _ _ _ _ _ t heap_sync (b _ (ref_send _ _ _ t))))
