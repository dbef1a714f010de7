-- Each thread takes a worker, and a reference to the store.
use denote.Exit.{yes}
use denote.Param.{param}
use denote.Param.Send.{IsSend, IsSync, param_send, arg_send, sendable}
use denote.RattleType.{RattleType}
use Rattle.std.specs.contracts.alloc.Global as heap
use Rattle.tt_store.specs.contracts.store.Store as store
use Rattle.tt_store_tests.specs.contracts.store.held.Held as held
use Rattle.tt_store_tests.specs.contracts.store.held.Marks as marks
use denote.Ref.{NamedLft}
use Rattle.std.proofs.Crossing.{crosses}
use Rattle.tt_store.proofs.Crossing.{worker_send, store_sync, ref_send, captures_send}
use Rattle.tt_store_tests.proofs.store.held.writes_beside_own_steps.Goals as goal

marks_sync : IsSync marks.the_row
marks_sync = search (crosses, sendable) depth 20

held_sync : (ℓ : NamedLft) → IsSync (held.the_row ℓ)
held_sync ℓ = search (marks_sync, crosses, sendable) depth 20

pub join-requires-send-A : goal.join-requires-send-A
join-requires-send-A g c κs within =
    let a = worker_send (param 0 g.row.L) g.L.Naming g.L.Ledger g.L.Protocol c.type_bounds.send-L c.type_bounds.sync-L in
    param_send 3 _ (arg_send _ yes _ a)

pub join-requires-send-F : goal.join-requires-send-F
join-requires-send-F g c κs within =
    let a = worker_send (param 0 g.row.L) g.L.Naming g.L.Ledger g.L.Protocol c.type_bounds.send-L c.type_bounds.sync-L in
    let b : (G R : RattleType) → IsSync G → IsSend R → IsSync (store.the_row (param 0 g.row.L) G R g.L.Naming g.L.Ledger g.L.Protocol) =
    λ G R y r. store_sync (param 0 g.row.L) R g.L.Naming g.L.Ledger g.L.Protocol c.type_bounds.send-L c.type_bounds.sync-L r G y in
    let t = c.type_bounds.sync-T in
    let h : IsSync heap.the_row = search (crosses, sendable) depth 10 in
    param_send 1 _ (arg_send _ yes _ (captures_send _ _ _ _ _ _ _ _ _ _ _ t h (b _ _ (held_sync _) (ref_send _ _ _ t)) a))
