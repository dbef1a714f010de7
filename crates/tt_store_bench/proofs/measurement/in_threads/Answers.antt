-- Workers go to threads of their own, which share the store.
use denote.Exit.{yes}
use denote.Param.{param}
use denote.Param.Send.{IsSend, IsSync, param_send, param_sync, arg_send, arg_sync, sendable}
use denote.RattleType.{RattleType}
use Rattle.std.specs.contracts.alloc.Global as heap
use Rattle.tt_store.specs.contracts.store.Store as store
use Rattle.tt_store.specs.contracts.gate.NoGate as nogate
use Rattle.tt_store_bench.specs.contracts.plan.Plan as plan
use Rattle.std.proofs.Crossing.{crosses}
use Rattle.tt_store.proofs.Crossing.{worker_send, store_sync, ref_send}
use Rattle.tt_store_bench.proofs.Crossing.{captures_sync}
use Rattle.tt_store_bench.proofs.measurement.in_threads.Goals as goal

nogate_sync : IsSync nogate.the_row
nogate_sync = search (crosses, sendable) depth 10

plan_sync : IsSync plan.the_row
plan_sync = search (crosses, sendable) depth 10

pub map_vec-requires-send-J : goal.map_vec-requires-send-J
map_vec-requires-send-J g c κs within =
    let a = worker_send (param 0 g.row.L) g.L.Naming g.L.Ledger g.L.Protocol c.type_bounds.send-L c.type_bounds.sync-L in
    param_send 1 _ (arg_send _ yes _ a)

pub map_vec-requires-sync-F : goal.map_vec-requires-sync-F
map_vec-requires-sync-F g c κs within =
    let b : (R : RattleType) → IsSend R → IsSync (store.the_row (param 0 g.row.L) nogate.the_row R g.L.Naming g.L.Ledger g.L.Protocol) =
    λ R r. store_sync (param 0 g.row.L) R g.L.Naming g.L.Ledger g.L.Protocol c.type_bounds.send-L c.type_bounds.sync-L r nogate.the_row nogate_sync in
    let t = c.type_bounds.sync-R in
    let h : IsSync heap.the_row = search (crosses, sendable) depth 10 in
    param_sync 4 _ (arg_sync _ yes _ (captures_sync _ _ _ _ _ _ _ _ _ _ _ _ _ t h (b _ (ref_send _ _ _ t)) plan_sync))
