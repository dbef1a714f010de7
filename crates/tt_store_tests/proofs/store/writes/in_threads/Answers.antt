-- Each thread takes a worker, and a reference to the store.
use denote.Exit.{yes}
use denote.Param.{param}
use denote.Param.Send.{IsSend, IsSync, param_send, arg_send, sendable}
use denote.RattleType.{RattleType}
use Rattle.std.specs.contracts.alloc.Global as heap
use Rattle.tt_store.specs.contracts.store.Store as store
use Rattle.tt_store.specs.contracts.gate.NoGate as nogate
use Rattle.std.proofs.Crossing.{crosses}
use Rattle.tt_store.proofs.Crossing.{worker_send, store_sync, ref_send, captures_send}
use Rattle.tt_store_tests.proofs.store.writes.in_threads.Goals as goal

pub join-requires-send-A : goal.join-requires-send-A
join-requires-send-A g c κs within =
    let a = worker_send (param 0 g.row.L) g.L.Naming g.L.Ledger g.L.Protocol c.type_bounds.send-L c.type_bounds.sync-L in
    param_send 3 _ (arg_send _ yes _ a)

nogate_sync : IsSync nogate.the_row
nogate_sync = search sendable depth 10

pub join-requires-send-F : goal.join-requires-send-F
join-requires-send-F g c κs within =
    let a = worker_send (param 0 g.row.L) g.L.Naming g.L.Ledger g.L.Protocol c.type_bounds.send-L c.type_bounds.sync-L in
    let b : (R : RattleType) → IsSend R → IsSync (store.the_row (param 0 g.row.L) nogate.the_row R g.L.Naming g.L.Ledger g.L.Protocol) =
    λ R r. store_sync (param 0 g.row.L) R g.L.Naming g.L.Ledger g.L.Protocol c.type_bounds.send-L c.type_bounds.sync-L r nogate.the_row nogate_sync in
    let t = c.type_bounds.sync-T in
    let h : IsSync heap.the_row = search (crosses, sendable) depth 10 in
    param_send 1 _ (arg_send _ yes _ (captures_send _ _ _ _ _ _ _ _ _ _ _ t h (b _ (ref_send _ _ _ t)) a))
