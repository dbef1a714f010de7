-- What the threads of a measurement share may be shared.
use denote.RattleType.{RattleType}
use denote.Param.Send.{IsSync, sendable}
use denote.Ref.{NamedLft}
use denote.Struct.Field.{shr_ref_field}
use denote.Struct.Tuple.{TupleAt}
use denote.Builtin.{One}
use mathlib.Core.List.{[], ◌∷◌}
use mir.Syntax.{Sym}

-- a reference may be shared where what it points to may be
pub ref_sync : (ℓ : NamedLft) (T : RattleType) (one : One T.mir) → IsSync T → IsSync (shr_ref_field ℓ T one).row
ref_sync ℓ T one y = search sendable depth 10

-- so may four of them
pub captures_sync : (name : Sym) (ℓ₁ ℓ₂ ℓ₃ ℓ₄ : NamedLft) (T A S P : RattleType) (one₁ : One T.mir) (one₂ : One A.mir) (one₃ : One S.mir) (one₄ : One P.mir)
    → IsSync T → IsSync A → IsSync S → IsSync P
    → IsSync (TupleAt name ((shr_ref_field ℓ₁ T one₁).row ∷ (shr_ref_field ℓ₂ A one₂).row ∷ (shr_ref_field ℓ₃ S one₃).row ∷ (shr_ref_field ℓ₄ P one₄).row ∷ []))
captures_sync name ℓ₁ ℓ₂ ℓ₃ ℓ₄ T A S P one₁ one₂ one₃ one₄ t y s p =
    let a = ref_sync ℓ₁ T one₁ t in
    let b = ref_sync ℓ₂ A one₂ y in
    let c = ref_sync ℓ₃ S one₃ s in
    let d = ref_sync ℓ₄ P one₄ p in
    search sendable depth 30
