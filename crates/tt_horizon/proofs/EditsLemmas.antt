-- The edits of slots that have come to stand elsewhere.
use Rattle.std.proofs.Common.{◌≡◌, ℕ, zero, suc, ◌<◌, ◌≤◌, Bool, true, false, cond, ◌==◌, List, [], ◌∷◌, map, All, Option, None, Some, option_map, refl, ap, ◌∙◌, arith, eq-eqb, ne_eqb, eqb-true}
use Rattle.std.proofs.lemmas.Bool.{eqb-false}
use Rattle.tt_repair_laws.specs.declared.edit.Edit.{Edit}
use Rattle.tt_repair_laws.specs.declared.edit.Edit.TheVariants.{Cancel, Replace}
use Rattle.tt_repair_laws.specs.Edits.{slot_number, edit_of}
use Rattle.tt_horizon.specs.Ground.{moved, moved_edit}
use Rattle.tt_horizon.specs.Laws.{IsBehind}

-- what holds of each element of a list holds of those behind the first
pub All-rest : {X : Type 0} (P : X → Type 0) (x : X) (xs : List X) → All P (x ∷ xs) → All P xs
All-rest P x xs h k d within = h (suc k) d (omega (arith, within))

-- no edit of slots behind a time is of a slot up to it
pub no_edit_before : (time : ℕ) (E : List Edit) → All (IsBehind time) E → (i : ℕ) → i < time → edit_of E (suc i) ≡ None
no_edit_before time [] behind i h = refl
no_edit_before time (e ∷ E) behind i h =
    let first : time < slot_number e = behind 0 e (omega arith) in
    ap (λ b. cond b (Some e) (edit_of E (suc i))) (ne_eqb (slot_number e) (suc i) (λ same. omega (arith, first, same, h)))
    ∙ no_edit_before time E (All-rest (IsBehind time) e E behind) i h

-- a function of what a choice gives
choice-option_map : {A B : Type 0} (f : A → B) (b : Bool) (x y : Option A) → cond b (option_map f x) (option_map f y) ≡ option_map f (cond b x y)
choice-option_map f true x y = refl
choice-option_map f false x y = refl

module _ (time size : ℕ) where
  -- the slot of an edit that has come to stand elsewhere
  slot_number-moved : (e : Edit) → slot_number (moved_edit time size e) ≡ moved time size (slot_number e)
  slot_number-moved (Cancel t) = refl
  slot_number-moved (Replace t action) = refl

  -- two slots behind a time are the same exactly if they come to stand at the same place
  same_place : (t n : ℕ) → time < t → time ≤ n → (moved time size t == suc (moved time size n)) ≡ (t == suc n)
  same_place t n first later = by (t == suc n) refl
    where
      by : (b : Bool) → (t == suc n) ≡ b → (moved time size t == suc (moved time size n)) ≡ b
      by true e = eq-eqb (moved time size t) (suc (moved time size n)) (omega (arith, eqb-true t (suc n) e, later))
      by false e = ne_eqb (moved time size t) (suc (moved time size n)) (λ same. eqb-false t (suc n) e (omega (arith, first, later, same)))

  -- the edit of a slot behind the horizon is the edit of where it comes to stand
  pub edit_of-moved : (E : List Edit) → All (IsBehind time) E → (n : ℕ) → time ≤ n →
      edit_of (map (moved_edit time size) E) (suc (moved time size n)) ≡ option_map (moved_edit time size) (edit_of E (suc n))
  edit_of-moved [] behind n later = refl
  edit_of-moved (e ∷ E) behind n later =
      let place = suc (moved time size n) in
      let first = ap (λ t. t == place) (slot_number-moved e) ∙ same_place (slot_number e) n (behind 0 e (omega arith)) later in
      let rest = edit_of-moved E (All-rest (IsBehind time) e E behind) n later in
      (λ i. cond (first i) (Some (moved_edit time size e)) (rest i))
      ∙ choice-option_map (moved_edit time size) (slot_number e == suc n) (Some e) (edit_of E (suc n))

  -- edits of slots behind the horizon are of slots behind the ground
  pub IsBehind-moved : (E : List Edit) → All (IsBehind time) E → All (IsBehind size) (map (moved_edit time size) E)
  IsBehind-moved [] behind k d within = let none : ⊥ = omega (arith, within) in absurd none
  IsBehind-moved (e ∷ E) behind zero d within =
      let first : time < slot_number e = behind 0 e (omega arith) in
      omega (arith, first, slot_number-moved e)
  IsBehind-moved (e ∷ E) behind (suc k) d within = IsBehind-moved E (All-rest (IsBehind time) e E behind) k d (omega (arith, within))
