-- What the thread of a repair takes with it.
use denote.Param.Send.{IsSend, IsSync, sendable}
use denote.RattleType.{RattleType}
use denote.Ref.{NamedLft}
use denote.Struct.Field.{shr_ref_field}
use denote.Struct.Tuple.{TupleAt}
use denote.Builtin.{One}
use mathlib.Core.List.{[], ◌∷◌}
use mir.Syntax.{Sym}
use Rattle.tt_store.proofs.Crossing.{ref_send}

-- references to a handle, an allocator and the store, a worker, and a reference to how the repair goes
pub paced_captures_send : (name : Sym) (ℓ₁ ℓ₂ ℓ₃ ℓ₄ : NamedLft) (T A S W P : RattleType) (one₁ : One T.mir) (one₂ : One A.mir) (one₃ : One S.mir) (one₄ : One P.mir)
    → IsSync T → IsSync A → IsSync S → IsSend W → IsSync P
    → IsSend (TupleAt name ((shr_ref_field ℓ₁ T one₁).row ∷ (shr_ref_field ℓ₂ A one₂).row ∷ (shr_ref_field ℓ₃ S one₃).row ∷ W ∷ (shr_ref_field ℓ₄ P one₄).row ∷ []))
paced_captures_send name ℓ₁ ℓ₂ ℓ₃ ℓ₄ T A S W P one₁ one₂ one₃ one₄ t y u w p =
    let a = ref_send ℓ₁ T one₁ t in
    let b = ref_send ℓ₂ A one₂ y in
    let c = ref_send ℓ₃ S one₃ u in
    let d = ref_send ℓ₄ P one₄ p in
    search sendable depth 30
