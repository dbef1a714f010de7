-- The slots of a legal history: their actions have no fault, and there are no more of them than the limits and the entries allow.
use Rattle.std.proofs.Common.{◌≡◌, ℕ, zero, suc, ◌+◌, ◌≤◌, Bool, true, false, ◌==◌, nat_lt, List, [], ◌∷◌, ◌++◌, length, drop, fold, Option, None, Some, if◌then◌else◌, refl, arith, length-append}
use Rattle.std.proofs.lemmas.Bool.Decides.{nat_tests}
use Rattle.std.proofs.lemmas.List.Elements.{All-nil, All-cons}
use Rattle.std.specs.List.{All}
use Rattle.std.specs.Option.{option_or}
use Rattle.tt_values.specs.declared.statement.Write.{Write}
use Rattle.tt_values.specs.declared.action.Action.{Action}
use Rattle.tt_values.specs.declared.checking.CheckError.{CheckError}
use Rattle.tt_values.specs.declared.checking.CheckError.TheVariants as faults
use Rattle.tt_values.specs.Tables.{Tables}
use Rattle.tt_values.specs.Limits.{max_writes}
use Rattle.tt_values.specs.Check.{first_write_fault, action_fault}
use Rattle.tt_values.specs.RowWrites.{Slots, slot_after}
use Rattle.tt_repair_laws.specs.declared.edit.Edit.{Edit}
use Rattle.tt_repair_laws.specs.declared.edit.Edit.TheVariants.{Cancel, Replace}
use Rattle.tt_repair_laws.specs.Edits.{edit_of, slot_with_edit, edited_slots_from}
use Rattle.tt_repair_laws.proofs.LawProofs.{edited_slots_are_as_many}
use Rattle.tt_generations.specs.KeptSlots.{IsAccepted}
use Rattle.tt_generations.specs.TwoGenerations.{Phase, Idle, Repairing, phase_after_step, slots_edited_by}
use Rattle.tt_db.specs.declared.limits.Limits.{Limits}
use Rattle.tt_db.specs.declared.event.Event.{Event}
use Rattle.tt_db.specs.declared.event.Event.TheVariants as events
use Rattle.tt_db.specs.declared.event.Entry.{Entry}
use Rattle.tt_db.specs.State.{State, start, after, now_of, next_state, edits_fault, refusal, IsLegal, IsLegalFrom}
use Rattle.tt_db.proofs.RefusalLemmas.{accepted_action, accepted_begin, has_room_for_entry, has_room_for_slot}
use Rattle.tt_horizon.specs.Laws.{HasFewWrites}

-- ---- the actions have no fault

-- the actions of slots have no faults
abbrev pub AllAccepted : Tables → Slots → Type 0
AllAccepted tables [] = Unit {0}
AllAccepted tables (s ∷ W) = IsAccepted tables s × AllAccepted tables W

AllAccepted-push : (tables : Tables) (W : Slots) (s : Option Action) → AllAccepted tables W → IsAccepted tables s → AllAccepted tables (W ++ s ∷ [])
AllAccepted-push tables [] s h a = (a, tt)
AllAccepted-push tables (x ∷ W) s h a = (h.0, AllAccepted-push tables W s h.1 a)

pub AllAccepted-drop : (tables : Tables) (n : ℕ) (W : Slots) → AllAccepted tables W → AllAccepted tables (drop n W)
AllAccepted-drop tables zero W h = h
AllAccepted-drop tables (suc n) [] h = tt
AllAccepted-drop tables (suc n) (s ∷ W) h = AllAccepted-drop tables n W h.1

pub slot_after-AllAccepted : (tables : Tables) (W : Slots) (n : ℕ) → AllAccepted tables W → IsAccepted tables (slot_after W n)
slot_after-AllAccepted tables [] n h = tt
slot_after-AllAccepted tables (s ∷ W) zero h = h.0
slot_after-AllAccepted tables (s ∷ W) (suc n) h = slot_after-AllAccepted tables W n h.1

-- slots stay so with edits whose actions have no faults
IsAccepted-edit : (tables : Tables) (E : List Edit) (t : ℕ) (s : Option Action) → edits_fault tables E ≡ None → IsAccepted tables s → IsAccepted tables (slot_with_edit (edit_of E t) s)
IsAccepted-edit tables [] t s none h = h
IsAccepted-edit tables (Cancel k ∷ E) t s none h = by (k == t) (IsAccepted-edit tables E t s none h)
  where
    by : (b : Bool) → IsAccepted tables (slot_with_edit (edit_of E t) s) → IsAccepted tables (slot_with_edit (if b then Some (Cancel k) else edit_of E t) s)
    by true rest = tt
    by false rest = rest
IsAccepted-edit tables (Replace k action ∷ E) t s none h = by (action_fault tables action.writes) refl none (λ rest. IsAccepted-edit tables E t s rest h)
  where
    at : (b : Bool) → action_fault tables action.writes ≡ None → IsAccepted tables (slot_with_edit (edit_of E t) s) → IsAccepted tables (slot_with_edit (if b then Some (Replace k action) else edit_of E t) s)
    at true is others = is
    at false is others = others

    by : (fault : Option CheckError) → action_fault tables action.writes ≡ fault → option_or fault (edits_fault tables E) ≡ None
        → (edits_fault tables E ≡ None → IsAccepted tables (slot_with_edit (edit_of E t) s))
        → IsAccepted tables (slot_with_edit (if k == t then Some (Replace k action) else edit_of E t) s)
    by None is rest others = at (k == t) is (others rest)
    by (Some e) is rest others = cc

AllAccepted-edits : (tables : Tables) (E : List Edit) (t : ℕ) (W : Slots) → edits_fault tables E ≡ None → AllAccepted tables W → AllAccepted tables (edited_slots_from t W E)
AllAccepted-edits tables E t [] none h = tt
AllAccepted-edits tables E t (s ∷ W) none h = (IsAccepted-edit tables E t s none h.0, AllAccepted-edits tables E (suc t) W none h.1)

-- nor have those of the edits of a repair
abbrev HasAcceptedEdits : Tables → Phase → Type 0
HasAcceptedEdits tables Idle = Unit {0}
HasAcceptedEdits tables (Repairing edits n) = edits_fault tables edits ≡ None

record IsAcceptedState (tables : Tables) (S : State) : Type 0 where
  slots : AllAccepted tables S.slots
  edits : HasAcceptedEdits tables S.phase

edits-step : (tables : Tables) (phase : Phase) → HasAcceptedEdits tables phase → HasAcceptedEdits tables (phase_after_step phase)
edits-step tables Idle h = tt
edits-step tables (Repairing edits n) h = h

slots-switch : (tables : Tables) (phase : Phase) (W : Slots) → HasAcceptedEdits tables phase → AllAccepted tables W → AllAccepted tables (slots_edited_by phase W)
slots-switch tables Idle W edits h = h
slots-switch tables (Repairing E n) W edits h = AllAccepted-edits tables E 1 W edits h

IsAcceptedState-next : (tables : Tables) (limits : Limits) (S : State) (event : Event) → refusal tables limits S event ≡ None → IsAcceptedState tables S → IsAcceptedState tables (next_state limits S event)
IsAcceptedState-next tables limits S (events.Write action) accepted h = record {
  slots = AllAccepted-push tables S.slots (Some action) h.slots (accepted_action tables limits S action accepted).no_fault;
  edits = h.edits;
}
IsAcceptedState-next tables limits S (events.Begin edits) accepted h = record { slots = h.slots; edits = (accepted_begin tables limits S edits accepted).no_fault }
IsAcceptedState-next tables limits S events.Step accepted h = record { slots = h.slots; edits = edits-step tables S.phase h.edits }
IsAcceptedState-next tables limits S events.Switch accepted h = record { slots = slots-switch tables S.phase S.slots h.edits h.slots; edits = tt }
IsAcceptedState-next tables limits S events.Abort accepted h = record { slots = h.slots; edits = tt }

IsAcceptedState-legal : (tables : Tables) (limits : Limits) (S : State) (history : List Entry) → IsLegalFrom tables limits S history → IsAcceptedState tables S
    → IsAcceptedState tables (fold (λ T e. next_state limits T e.event) S history)
IsAcceptedState-legal tables limits S [] legal h = h
IsAcceptedState-legal tables limits S (e ∷ history) legal h =
    IsAcceptedState-legal tables limits (next_state limits S e.event) history legal.1 (IsAcceptedState-next tables limits S e.event legal.0 h)

pub AllAccepted-legal : (tables : Tables) (limits : Limits) (history : List Entry) → IsLegal tables limits history → AllAccepted tables (after limits history).slots
AllAccepted-legal tables limits history legal = (IsAcceptedState-legal tables limits start history legal (record { slots = tt; edits = tt })).slots

-- ---- the writes of an action without a fault are few

few_writes : (tables : Tables) (ws : List Write) → action_fault tables ws ≡ None → length ws ≤ max_writes
few_writes tables ws none = by (nat_lt max_writes (length ws)) refl none
  where
    by : (b : Bool) → nat_lt max_writes (length ws) ≡ b → (if b then Some faults.TooManyWrites else first_write_fault tables ws) ≡ None → length ws ≤ max_writes
    by true is h = cc
    by false is h = grind (arith, nat_tests)

few_writes-slot : (tables : Tables) (s : Option Action) → IsAccepted tables s → HasFewWrites max_writes s
few_writes-slot tables None h = omega arith
few_writes-slot tables (Some action) h = few_writes tables action.writes h

pub All-few_writes : (tables : Tables) (W : Slots) → AllAccepted tables W → All (HasFewWrites max_writes) W
All-few_writes tables [] h = All-nil (HasFewWrites max_writes)
All-few_writes tables (s ∷ W) h = All-cons (HasFewWrites max_writes) s W (few_writes-slot tables s h.0) (All-few_writes tables W h.1)

-- ---- there are no more slots and entries than the limits allow

length-edited : (phase : Phase) (W : Slots) → length (slots_edited_by phase W) ≡ length W
length-edited Idle W = refl
length-edited (Repairing edits n) W = edited_slots_are_as_many W edits

few_slots-next : (tables : Tables) (limits : Limits) (S : State) (event : Event) → refusal tables limits S event ≡ None → now_of S ≤ limits.slots → now_of (next_state limits S event) ≤ limits.slots
few_slots-next tables limits S (events.Write action) accepted few =
    omega (arith, has_room_for_slot tables limits S action accepted few, length-append S.slots (Some action ∷ []))
few_slots-next tables limits S (events.Begin edits) accepted few = few
few_slots-next tables limits S events.Step accepted few = few
few_slots-next tables limits S events.Switch accepted few = omega (arith, few, length-edited S.phase S.slots)
few_slots-next tables limits S events.Abort accepted few = few

few_slots-legal : (tables : Tables) (limits : Limits) (S : State) (history : List Entry) → IsLegalFrom tables limits S history → now_of S ≤ limits.slots
    → now_of (fold (λ T e. next_state limits T e.event) S history) ≤ limits.slots
few_slots-legal tables limits S [] legal few = few
few_slots-legal tables limits S (e ∷ history) legal few =
    few_slots-legal tables limits (next_state limits S e.event) history legal.1 (few_slots-next tables limits S e.event legal.0 few)

pub few_slots : (tables : Tables) (limits : Limits) (history : List Entry) → IsLegal tables limits history → now_of (after limits history) ≤ limits.slots
few_slots tables limits history legal = few_slots-legal tables limits start history legal (omega arith)

few_entries-legal : (tables : Tables) (limits : Limits) (S : State) (history : List Entry) → IsLegalFrom tables limits S history → S.events ≤ limits.events
    → S.events + length history ≤ limits.events
few_entries-legal tables limits S [] legal few = omega (arith, few)
few_entries-legal tables limits S (e ∷ history) legal few =
    let room = has_room_for_entry tables limits S e.event legal.0 few in
    let rest = few_entries-legal tables limits (next_state limits S e.event) history legal.1 (omega (arith, room)) in
    omega (arith, rest)

pub few_entries : (tables : Tables) (limits : Limits) (history : List Entry) → IsLegal tables limits history → length history ≤ limits.events
few_entries tables limits history legal = let few = few_entries-legal tables limits start history legal (omega arith) in omega (arith, few)
