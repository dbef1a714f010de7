-- The cause of a slot that the repair has done.
use Rattle.std.proofs.Common.{◌≡◌, ℕ, zero, suc, pred, ◌+◌, ◌-◌, ◌<◌, ◌≤◌, nat_lt, pos, true, List, Option, Some, None, is_some, length, slice_get, if◌then◌else◌, refl, sym, ap, subst, ◌∙◌, arith}
use Rattle.std.specs.Option.{option_map}
use Rattle.std.specs.Ordering.{int_cmp}
use Rattle.std.specs.FinMap.Entries as sorted
use Rattle.std.proofs.lemmas.Bool.Decides.{nat_tests}
use Rattle.std.proofs.lemmas.Option.{slice_get_within, get_or_from_slice_get}
use Rattle.std.proofs.lemmas.List.{length-map}
use Rattle.tt_values.specs.declared.action.Action.{Action}
use Rattle.tt_values.specs.Tables.{Tables, IsCatalog}
use Rattle.tt_values.specs.RowWrites.{Slots, slot_after}
use Rattle.tt_repair_laws.specs.declared.edit.Edit.{Edit}
use Rattle.tt_repair_laws.specs.Edits.{edit_of, replacement_of}
use Rattle.tt_repair_laws.specs.Due.{content_after, is_due, slot_rows_touched}
use Rattle.tt_causes.specs.Causes.{Edited, slot_action_writes, cause}
use Rattle.tt_causes.specs.Numbers.{cause_by_numbers}
use Rattle.tt_causes.proofs.LawProofs.{due_slots_have_a_cause, causes_are_found_by_numbers}
use Rattle.tt_generations.specs.declared.slot.KeptSlot.{KeptSlot}
use Rattle.tt_generations.specs.declared.repair.Repair.{Repair}
use Rattle.tt_generations.specs.Rows.{TablesByPosition}
use Rattle.tt_generations.specs.KeptSlots.{kept_slot, actions_of, AreAccepted}
use Rattle.tt_generations.specs.Repair.{HasKeysIfAny, as_action, kept_cause}
use Rattle.tt_generations.specs.SlotCauses.{cause_at, next_redone_at}
use Rattle.tt_generations.specs.ReexecutedSlots.{numbers_of, DividesAt}
use Rattle.tt_generations.specs.TwoGenerations.{Repairing}
use Rattle.tt_generations.specs.Generations.{phase_of, IsRepair, IsRepairIfAny, AreGenerations}
use Rattle.tt_generations.proofs.ReexecutedSlotsLemmas.{first-at, find-same}
use Rattle.tt_generations.proofs.RepairStepsLemmas.{rows-kept}
use Rattle.tt_generations.proofs.GenerationsLemmas.{keys-kept}

same_value : {X : Type 0} (x y : X) → Some x ≡ Some y → x ≡ y
same_value x y h = cc

is_some-map : {X Y : Type 0} (f : X → Y) (o : Option X) → is_some (option_map f o) ≡ is_some o
is_some-map f None = refl
is_some-map f (Some x) = refl

writes-of_action : (s : Option Action) → (as_action s).writes ≡ slot_action_writes s
writes-of_action None = refl
writes-of_action (Some action) = refl

-- what is kept of a slot gives its cause
cause-kept : (tables : Tables) (W : Slots) (r : Repair) (i : ℕ) → IsRepair tables W r → i < r.done → kept_cause r (suc i) (kept_slot W i) ≡ cause tables W r.edits i
cause-kept tables W r i is within =
    let s = slot_after W i in
    let rows = slot_rows_touched s (content_after W i) in
    let edited : is_some (sorted.find int_cmp (pos (suc i)) r.replacements) ≡ is_some (edit_of r.edits (suc i)) =
    ap is_some (is.replacements (suc i)) ∙ is_some-map (λ e. record { action = replacement_of e }) (edit_of r.edits (suc i)) in
    let by_kept : cause_by_numbers r.dirty.catalog r.dirty.since (kept_slot W i).rows (as_action s).writes i ≡ cause_by_numbers tables r.dirty.since rows (slot_action_writes s) i =
    λ j. cause_by_numbers (is.catalog j) r.dirty.since (rows-kept W i (omega (arith, within, is.done)) j) (writes-of_action s j) i in
    (λ j. if edited j then Some Edited else by_kept j)
    ∙ sym (causes_are_found_by_numbers tables W r.edits r.done r.dirty.since i (omega (arith, within)) is.since)

-- so does what is found at its place
pub cause-found : (tables : Tables) (kept : List KeptSlot) (versions : TablesByPosition) (repair : Option Repair) (r : Repair) (number position : ℕ) (k : KeptSlot) → AreGenerations tables kept versions repair
    → Some r ≡ repair → 1 ≤ number → number ≤ r.done → position ≡ number - 1 → slice_get kept position ≡ Some k → kept_cause r number k ≡ cause_at tables (phase_of repair) (actions_of kept) number
cause-found tables kept versions repair r zero position k are is first within at found = absurd (omega (arith, first))
cause-found tables kept versions repair r (suc i) position k are is first within at found =
    ap (kept_cause r (suc i)) same
    ∙ cause-kept tables W r i under_way (omega (arith, within))
    ∙ ap (λ b. if b then cause tables W r.edits i else None) done
    ∙ ap (λ (o : Option Repair). cause_at tables (phase_of o) W (suc i)) is
  where
    W : Slots
    W = actions_of kept

    under_way : IsRepair tables W r
    under_way = subst (IsRepairIfAny tables W) (sym is) are.under_way

    done : true ≡ nat_lt i r.done
    done = grind (arith, nat_tests)

    here : position ≡ i
    here = omega (arith, at)

    same : k ≡ kept_slot W i
    same = same_value k (kept_slot W i) (sym found ∙ ap (slice_get kept) here ∙ are.slots.each i (omega (arith, within, under_way.done, many)))
      where
        many : length W ≡ length kept
        many = length-map kept (λ (t : KeptSlot). t.slot.action)

-- a slot that is done has a cause where it was due
cause-done : (tables : Tables) (W : Slots) (E : List Edit) (n t : ℕ) → 0 < t → t ≤ n → is_due tables W E (pred t) ≡ is_some (cause_at tables (Repairing E n) W t)
cause-done tables W E n zero first last = absurd (omega (arith, first))
cause-done tables W E n (suc i) first last =
    let done : true ≡ nat_lt i n = grind (arith, nat_tests) in
    sym (due_slots_have_a_cause tables W E i) ∙ ap (λ b. is_some (if b then cause tables W E i else None)) done

-- the place that divides the numbers of the re-executed slots has the first one behind a number
pub next_redone-found : (tables : Tables) (kept : List KeptSlot) (versions : TablesByPosition) (repair : Option Repair) (r : Repair) (number place : ℕ) → AreGenerations tables kept versions repair
    → Some r ≡ repair → DividesAt r.reexecuted number place → slice_get r.reexecuted place ≡ next_redone_at tables (phase_of repair) (actions_of kept) number
next_redone-found tables kept versions repair r number place are is at =
    ap (λ (ns : List ℕ). slice_get ns place) numbers
    ∙ first-at (is_due tables W r.edits) r.done number place (subst (λ (ns : List ℕ). DividesAt ns number place) numbers at)
    ∙ find-same (λ t. is_due tables W r.edits (pred t)) (λ t. is_some (cause_at tables (Repairing r.edits r.done) W t)) (number + 1) (r.done - number)
    (λ t low high. cause-done tables W r.edits r.done t (omega (arith, low)) (omega (arith, low, high)))
    ∙ ap (λ (o : Option Repair). next_redone_at tables (phase_of o) W number) is
  where
    W : Slots
    W = actions_of kept

    under_way : IsRepair tables W r
    under_way = subst (IsRepairIfAny tables W) (sym is) are.under_way

    numbers : r.reexecuted ≡ numbers_of (is_due tables W r.edits) r.done
    numbers = under_way.reexecuted

-- a slot that is kept has the keys of its rows
pub keys-found : (tables : Tables) (kept : List KeptSlot) (position : ℕ) (k : KeptSlot) → IsCatalog tables → AreAccepted tables (actions_of kept) → slice_get kept position ≡ Some k → HasKeysIfAny k.slot.action
keys-found tables kept position k catalog are found =
    let inside = slice_get_within kept position k found in
    let keyed = keys-kept tables kept catalog are position k inside in
    subst (λ (j : KeptSlot). HasKeysIfAny j.slot.action) (get_or_from_slice_get kept position k k found) keyed
