-- The slots that are left, once the next one is taken.
use Rattle.std.proofs.Common.{◌≡◌, ℕ, suc, ◌+◌, ◌-◌, ◌≤◌, List, Option, None, Some, option_copied, sym, ap, subst, ◌∙◌, arith}
use Rattle.std.specs.Borrow.{Bor}
use Rattle.std.specs.Iterator.{YieldsFirstRef}
use Rattle.tt_values.specs.RowWrites.{Slots}
use Rattle.tt_generations.specs.declared.slot.Slot.{Slot}
use Rattle.tt_generations.specs.KeptSlots.{slot_at}
use Rattle.tt_generations.specs.SlotsAfter.{AreSlotsAfter}

-- the next one is the slot of the number behind those that have passed, and one more has passed
record IsNext (W : Slots) (passed : ℕ) (given : Option Slot) (rest : List Slot) : Type 0 where
  next : given ≡ slot_at W (suc passed)
  left : AreSlotsAfter (suc passed) W rest

is_next : (W : Slots) (passed : ℕ) (left rest : List Slot) (o : Option (Bor Slot)) → AreSlotsAfter passed W left → YieldsFirstRef (λ s. s) left o rest → IsNext W passed (option_copied o) rest
is_next W passed left rest None are gives =
    let none = subst (AreSlotsAfter passed W) gives.0 are in
    let here : passed + 0 ≡ passed = omega arith in
    record {
      next = none.each 0 ∙ ap (λ n. slot_at W (suc n)) here;
      left = subst (AreSlotsAfter (suc passed) W) (sym gives.1) (record {
        as_many = omega (arith, none.as_many);
        each = λ i. none.each (suc i) ∙ ap (λ n. slot_at W (suc n)) (omega arith);
      });
    }
is_next W passed left rest (Some x) are gives =
    let some = subst (AreSlotsAfter passed W) gives are in
    let here : passed + 0 ≡ passed = omega arith in
    record {
      next = some.each 0 ∙ ap (λ n. slot_at W (suc n)) here;
      left = record {
        as_many = omega (arith, some.as_many);
        each = λ i. some.each (suc i) ∙ ap (λ n. slot_at W (suc n)) (omega arith);
      };
    }

is_next-at : (W : Slots) (number passed : ℕ) (left rest : List Slot) (o : Option (Bor Slot)) → 1 ≤ number → passed ≡ number - 1 → AreSlotsAfter passed W left → YieldsFirstRef (λ s. s) left o rest
    → (option_copied o ≡ slot_at W number) × AreSlotsAfter number W rest
is_next-at W number passed left rest o some behind are gives =
    let is = is_next W passed left rest o are gives in
    let number_is : suc passed ≡ number = omega arith in
    (is.next ∙ ap (slot_at W) number_is, subst (λ n. AreSlotsAfter n W rest) number_is is.left)

-- the slot of a number, where those in front of it have passed
pub next-is : (W : Slots) (number passed : ℕ) (left rest : List Slot) (o : Option (Bor Slot)) → 1 ≤ number → passed ≡ number - 1 → AreSlotsAfter passed W left → YieldsFirstRef (λ s. s) left o rest
    → option_copied o ≡ slot_at W number
next-is W number passed left rest o some behind are gives = (is_next-at W number passed left rest o some behind are gives).0

-- the slots behind it are left
pub left-behind : (W : Slots) (number passed : ℕ) (left rest : List Slot) (o : Option (Bor Slot)) → 1 ≤ number → passed ≡ number - 1 → AreSlotsAfter passed W left → YieldsFirstRef (λ s. s) left o rest
    → AreSlotsAfter number W rest
left-behind W number passed left rest o some behind are gives = (is_next-at W number passed left rest o some behind are gives).1
