-- Each thread takes a worker and gives it back, with what it was told. All refer to the store.
use denote.Exit.{yes}
use denote.Param.{param}
use denote.Param.Send.{IsSend, IsSync, param_send, param_sync, arg_send, arg_sync, sendable}
use denote.RattleType.{RattleType}
use denote.Ref.{NamedLft}
use denote.Builtin.{One}
use denote.Struct.Field.{shr_ref_field}
use denote.Struct.Tuple.{TupleAt}
use mathlib.Core.List.{[], ◌∷◌}
use mir.Syntax.{Sym}
use Rattle.std.specs.contracts.alloc.Global as heap
use Rattle.tt_values.specs.contracts.reply.Reply as reply
use Rattle.tt_store.specs.contracts.answer.Answer as answer
use Rattle.tt_store.specs.contracts.answer.Written as written
use Rattle.tt_store.specs.contracts.gate.NoGate as nogate
use Rattle.tt_store.specs.contracts.store.Store as store
use Rattle.tt_store_tests.specs.contracts.store.crowd.KeptRead as kept_read
use Rattle.tt_store_tests.specs.contracts.store.crowd.Shift as shift
use Rattle.std.proofs.Crossing.{crosses}
use Rattle.tt_store.proofs.Crossing.{items_send, items_sync, row_send, row_sync, reply_send, reply_sync, worker_send, store_sync, ref_send}
use Rattle.tt_store_tests.proofs.store.crowd.in_threads.Goals as goal

written_send : IsSend written.the_row
written_send = search (items_send, reply_send, reply_sync, crosses, sendable) depth 60 fits 50000

reply_field_send : IsSend (reply.the_field).row
reply_field_send = search (items_send, items_sync, row_send, row_sync, crosses, sendable) depth 60 fits 50000

answer_field_send : IsSend (answer.the_field).row
answer_field_send = search (reply_field_send, crosses, sendable) depth 60 fits 50000

kept_read_send : IsSend kept_read.the_row
kept_read_send = search (answer_field_send, crosses, sendable) depth 60 fits 50000

nogate_sync : IsSync nogate.the_row
nogate_sync = search sendable depth 10

heap_sync : IsSync heap.the_row
heap_sync = search (crosses, sendable) depth 10

ref_sync : (ℓ : NamedLft) (T : RattleType) (one : One T.mir) → IsSync T → IsSync (shr_ref_field ℓ T one).row
ref_sync ℓ T one y = search sendable depth 10

captures_sync : (name : Sym) (ℓ₁ ℓ₂ ℓ₃ : NamedLft) (T A S : RattleType) (one₁ : One T.mir) (one₂ : One A.mir) (one₃ : One S.mir)
    → IsSync T → IsSync A → IsSync S
    → IsSync (TupleAt name ((shr_ref_field ℓ₁ T one₁).row ∷ (shr_ref_field ℓ₂ A one₂).row ∷ (shr_ref_field ℓ₃ S one₃).row ∷ []))
captures_sync name ℓ₁ ℓ₂ ℓ₃ T A S one₁ one₂ one₃ t y u =
    let a = ref_sync ℓ₁ T one₁ t in
    let b = ref_sync ℓ₂ A one₂ y in
    let c = ref_sync ℓ₃ S one₃ u in
    search sendable depth 30

pub map_vec-shifts-requires-send-J : goal.map_vec-shifts-requires-send-J
map_vec-shifts-requires-send-J g c κs within =
    let a = worker_send (param 0 g.row.L) g.L.Naming g.L.Ledger g.L.Protocol c.type_bounds.send-L c.type_bounds.sync-L in
    param_send 1 _ (arg_send _ yes _ a)

pub map_vec-shifts-requires-send-X : goal.map_vec-shifts-requires-send-X
map_vec-shifts-requires-send-X g c κs within =
    let w = worker_send (param 0 g.row.L) g.L.Naming g.L.Ledger g.L.Protocol c.type_bounds.send-L c.type_bounds.sync-L in
    let a : IsSend (shift.the_row (param 0 g.row.L) g.L.Naming g.L.Ledger g.L.Protocol) =
    search (written_send, kept_read_send, crosses, sendable) depth 60 fits 50000 in
    param_send 2 _ (arg_send _ yes _ a)

pub map_vec-shifts-requires-sync-F : goal.map_vec-shifts-requires-sync-F
map_vec-shifts-requires-sync-F g c κs within =
    let b : (R : RattleType) → IsSend R → IsSync (store.the_row (param 0 g.row.L) nogate.the_row R g.L.Naming g.L.Ledger g.L.Protocol) =
    λ R r. store_sync (param 0 g.row.L) R g.L.Naming g.L.Ledger g.L.Protocol c.type_bounds.send-L c.type_bounds.sync-L r nogate.the_row nogate_sync in
    let t = c.type_bounds.sync-T in
    param_sync 4 _ (arg_sync _ yes _ (captures_sync _ _ _ _ _ _ _ _ _ _ t heap_sync (b _ (ref_send _ _ _ t))))
