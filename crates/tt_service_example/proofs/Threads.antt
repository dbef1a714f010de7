-- What a thread of the service takes with it, and what it leaves.
use denote.RattleType.{RattleType}
use denote.Builtin.{One}
use denote.Param.Send.{IsSend, IsSync, sendable}
use denote.Ref.{NamedLft}
use denote.Struct.Field.{shr_ref_field, u64-field}
use denote.Struct.Tuple.{TupleAt}
use mathlib.Core.List.{[], ◌∷◌}
use mir.Syntax.{Sym}
use Rattle.std.proofs.Crossing.{crosses}
use Rattle.std.specs.contracts.alloc.Global as heap
use Rattle.tt_store.specs.contracts.gate.NoGate as no_gate
use Rattle.tt_store.proofs.Crossing.{ref_send}
use Rattle.tt_service_example.specs.contracts.error.ServiceError as error

pub error_send : IsSend error.the_row
error_send = search (crosses, sendable) depth 60 fits 50000

pub no_gate_sync : IsSync no_gate.the_row
no_gate_sync = search sendable depth 10

pub heap_sync : IsSync heap.the_row
heap_sync = search (crosses, sendable) depth 10

ref_sync : (ℓ : NamedLft) (T : RattleType) (one : One T.mir) → IsSync T → IsSync (shr_ref_field ℓ T one).row
ref_sync ℓ T one y = search sendable depth 10

u64_sync : IsSync (u64-field).row
u64_sync = search sendable depth 10

-- a clerk's thread refers to the handle, the allocator and the store
pub clerk_sync : (name : Sym) (ℓ₁ ℓ₂ ℓ₃ : NamedLft) (T A S : RattleType) (one₁ : One T.mir) (one₂ : One A.mir) (one₃ : One S.mir)
    → IsSync T → IsSync A → IsSync S
    → IsSync (TupleAt name ((shr_ref_field ℓ₁ T one₁).row ∷ (shr_ref_field ℓ₂ A one₂).row ∷ (shr_ref_field ℓ₃ S one₃).row ∷ []))
clerk_sync name ℓ₁ ℓ₂ ℓ₃ T A S one₁ one₂ one₃ t y u =
    let a = ref_sync ℓ₁ T one₁ t in
    let b = ref_sync ℓ₂ A one₂ y in
    let c = ref_sync ℓ₃ S one₃ u in
    search sendable depth 30

-- the administrator's takes its worker too, and refers to the slot of the fee
pub administrator_send : (name : Sym) (ℓ₁ ℓ₂ ℓ₃ ℓ₄ : NamedLft) (T A S W : RattleType) (one₁ : One T.mir) (one₂ : One A.mir) (one₃ : One S.mir) (one₄ : One (u64-field).row.mir)
    → IsSync T → IsSync A → IsSync S → IsSend W
    → IsSend (TupleAt name ((shr_ref_field ℓ₁ T one₁).row ∷ (shr_ref_field ℓ₂ A one₂).row ∷ (shr_ref_field ℓ₃ S one₃).row ∷ W ∷ (shr_ref_field ℓ₄ (u64-field).row one₄).row ∷ []))
administrator_send name ℓ₁ ℓ₂ ℓ₃ ℓ₄ T A S W one₁ one₂ one₃ one₄ t y u w =
    let a = ref_send ℓ₁ T one₁ t in
    let b = ref_send ℓ₂ A one₂ y in
    let c = ref_send ℓ₃ S one₃ u in
    let d = ref_send ℓ₄ (u64-field).row one₄ u64_sync in
    search sendable depth 30
