-- Slots with their edits, one by one.
use Rattle.std.proofs.Common.{◌≡◌, ℕ, zero, suc, ◌+◌, ◌<◌, ◌≤◌, List, [], ◌∷◌, ◌++◌, length, None, refl, ap, ◌∙◌, arith}
use Rattle.tt_values.specs.RowWrites.{Slots, slot_after}
use Rattle.tt_repair_laws.specs.declared.edit.Edit.{Edit}
use Rattle.tt_repair_laws.specs.Edits.{edit_of, slot_with_edit, edited_slots_from, edited_slots}
use Rattle.tt_repair_laws.specs.Laws.{EditedSlotsAreAsMany, EditedSlotIsNext, UneditedSlotsStay, LaterSlotsStay}

pub length-edited_slots_from : (t : ℕ) (W : Slots) (E : List Edit) → length (edited_slots_from t W E) ≡ length W
length-edited_slots_from t [] E = refl
length-edited_slots_from t (s ∷ W) E = ap suc (length-edited_slots_from (suc t) W E)

pub edited_slots_are_as_many : EditedSlotsAreAsMany
edited_slots_are_as_many W E = length-edited_slots_from 1 W E

slot_after-edited : (t i m : ℕ) (W : Slots) (E : List Edit) → m ≡ t + i → i < length W → slot_after (edited_slots_from t W E) i ≡ slot_with_edit (edit_of E m) (slot_after W i)
slot_after-edited t i m [] E e h = let none : ⊥ = omega (arith, h) in absurd none
slot_after-edited t zero m (s ∷ W) E e h = let here : t ≡ m = omega (arith, e) in ap (λ k. slot_with_edit (edit_of E k) s) here
slot_after-edited t (suc i) m (s ∷ W) E e h = slot_after-edited (suc t) i m W E (omega (arith, e)) (omega (arith, h))

pub edited_slot_is_next : EditedSlotIsNext
edited_slot_is_next W E n h = slot_after-edited 1 n (suc n) W E (omega arith) h

edited_slots_from-append : (t m : ℕ) (W X : Slots) (E : List Edit) → m ≡ t + length W → edited_slots_from t (W ++ X) E ≡ edited_slots_from t W E ++ edited_slots_from m X E
edited_slots_from-append t m [] X E e = let here : t ≡ m = omega (arith, e) in ap (λ k. edited_slots_from k X E) here
edited_slots_from-append t m (s ∷ W) X E e = ap (λ V. slot_with_edit (edit_of E t) s ∷ V) (edited_slots_from-append (suc t) m W X E (omega (arith, e)))

-- slots that are added are behind the others, with their edits
pub edited_slots-append : (W X : Slots) (E : List Edit) → edited_slots (W ++ X) E ≡ edited_slots W E ++ edited_slots_from (suc (length W)) X E
edited_slots-append W X E = edited_slots_from-append 1 (suc (length W)) W X E (omega arith)

slot_after-unedited : (t i m : ℕ) (W : Slots) (E : List Edit) → m ≡ t + i → edit_of E m ≡ None → slot_after (edited_slots_from t W E) i ≡ slot_after W i
slot_after-unedited t i m [] E e h = refl
slot_after-unedited t zero m (s ∷ W) E e h = let here : t ≡ m = omega (arith, e) in ap (λ o. slot_with_edit o s) (ap (edit_of E) here ∙ h)
slot_after-unedited t (suc i) m (s ∷ W) E e h = slot_after-unedited (suc t) i m W E (omega (arith, e)) h

pub unedited_slots_stay : UneditedSlotsStay
unedited_slots_stay W E n h = slot_after-unedited 1 n (suc n) W E (omega arith) h

edited_slots_from-unedited : (t : ℕ) (X : Slots) (E : List Edit) → ((m : ℕ) → t ≤ m → edit_of E m ≡ None) → edited_slots_from t X E ≡ X
edited_slots_from-unedited t [] E h = refl
edited_slots_from-unedited t (s ∷ X) E h =
    let here = ap (λ o. slot_with_edit o s) (h t (omega arith)) in
    let rest = edited_slots_from-unedited (suc t) X E (λ m later. h m (omega (arith, later))) in
    λ i. here i ∷ rest i

pub later_slots_stay : LaterSlotsStay
later_slots_stay W X E h = edited_slots-append W X E ∙ ap (λ V. edited_slots W E ++ V) (edited_slots_from-unedited (suc (length W)) X E h)
