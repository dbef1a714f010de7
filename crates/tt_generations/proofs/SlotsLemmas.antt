-- What is kept of the slots behind the first of them.
use Rattle.std.proofs.Common.{◌≡◌, ℕ, zero, suc, ◌<◌, ◌≤◌, ◌+◌, ◌-◌, nat_lt, Bool, true, false, if◌then◌else◌, List, [], ◌∷◌, length, drop, map, slice_get, Option, None, Some, refl, sym, ap, subst, ◌∙◌, arith, length-drop}
use Rattle.std.specs.Option.{option_map}
use Rattle.std.proofs.lemmas.Bool.Decides.{nat_tests}
use Rattle.std.proofs.lemmas.List.{length-map}
use Rattle.std.proofs.lemmas.Option.{slice_get-map, slice_get_past}
use Rattle.tt_values.specs.RowWrites.{Slots}
use Rattle.tt_generations.specs.declared.slot.Slot.{Slot}
use Rattle.tt_generations.specs.declared.slot.KeptSlot.{KeptSlot}
use Rattle.tt_generations.specs.KeptSlots.{slot_with_replies, slot_at, kept_slot, actions_of, AreKept}
use Rattle.tt_generations.specs.SlotsAfter.{AreSlotsAfter}

slice_get-drop : {X : Type 0} (n : ℕ) (xs : List X) (i : ℕ) → slice_get (drop n xs) i ≡ slice_get xs (n + i)
slice_get-drop zero xs i = ap (slice_get xs) (omega arith)
slice_get-drop (suc n) [] i = refl
slice_get-drop (suc n) (x ∷ xs) i =
    let next : suc (n + i) ≡ suc n + i = omega arith in
    slice_get-drop n xs i ∙ ap (slice_get (x ∷ xs)) next

-- the slot of a number is the one that is kept at its place
slot-kept : (kept : List KeptSlot) (n : ℕ) → AreKept kept (kept_slot (actions_of kept)) (length kept) → option_map (λ k. k.slot) (slice_get kept n) ≡ slot_at (actions_of kept) (suc n)
slot-kept kept n are = by (nat_lt n (length W)) refl
  where
    W : Slots
    W = actions_of kept

    many : length W ≡ length kept
    many = length-map kept (λ t. t.slot.action)

    by : (b : Bool) → nat_lt n (length W) ≡ b → option_map (λ k. k.slot) (slice_get kept n) ≡ (if b then Some (slot_with_replies W n) else None)
    by true e =
        let inside : n < length W = grind (arith, nat_tests) in
        ap (option_map (λ k. k.slot)) (are.each n (omega (arith, inside, many)))
    by false e =
        let past : length W ≤ n = grind (arith, nat_tests) in
        ap (option_map (λ k. k.slot)) (slice_get_past kept n (omega (arith, past, many)))

pub slots-after : (count : ℕ) (kept : List KeptSlot) → AreKept kept (kept_slot (actions_of kept)) (length kept)
    → AreSlotsAfter count (actions_of kept) (map (λ k. k.slot) (drop count kept))
slots-after count kept are = record {
  as_many = length-map (drop count kept) (λ k. k.slot) ∙ length-drop count kept ∙ ap (λ n. n - count) (sym (length-map kept (λ k. k.slot.action)));
  each = λ i. slice_get-map (λ k. k.slot) (drop count kept) i ∙ ap (option_map (λ k. k.slot)) (slice_get-drop count kept i) ∙ slot-kept kept (count + i) are;
}
