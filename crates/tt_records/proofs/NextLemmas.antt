-- The changes by a repair under way, and what they are once it has done all slots.
use Rattle.std.proofs.Common.{◌≡◌, ◌≢◌, ℕ, zero, suc, ◌<◌, nat_lt, Bool, true, false, if◌then◌else◌, List, [], ◌∷◌, length, Option, None, Some, Result, Ok, Err, refl, sym, ap, subst, ◌∙◌, arith}
use Rattle.std.specs.Option.{option_map, option_and_then}
use Rattle.std.specs.List.{flat_map}
use Rattle.std.proofs.lemmas.Bool.Decides.{nat_tests}
use Rattle.tt_values.specs.declared.checking.CheckError.{CheckError}
use Rattle.tt_values.specs.declared.statement.Select.{Select}
use Rattle.tt_values.specs.declared.reply.Reply.{Reply}
use Rattle.tt_values.specs.Tables.{Tables}
use Rattle.tt_values.specs.Check.{select_fault}
use Rattle.tt_values.specs.Content.{content_at}
use Rattle.tt_values.specs.Effect.{answer_of}
use Rattle.tt_values.specs.RowWrites.{Slots, row_writes}
use Rattle.tt_repair_laws.specs.declared.edit.Edit.{Edit}
use Rattle.tt_repair_laws.specs.Edits.{edited_slots}
use Rattle.tt_repair_laws.proofs.LawProofs.{edited_slots_are_as_many}
use Rattle.tt_generations.specs.declared.progress.Progress.{Progress}
use Rattle.tt_generations.specs.KeptSlots.{slot_at, slot_with_replies}
use Rattle.tt_generations.specs.TwoGenerations.{Phase, Idle, Repairing, is_repairing, done_of, next_content_at, next_slot_at, progress_in, slots_edited_by}
use Rattle.tt_db.specs.declared.errors.ReadError.{ReadError}
use Rattle.tt_db.specs.declared.errors.ReadError.TheVariants as errors
use Rattle.tt_db.specs.declared.event.Event.TheVariants.{Switch}
use Rattle.tt_db.specs.State.{State, next_state}
use Rattle.tt_db.specs.RightAnswers.{Answers, right_preview_at, unless_fault, unless_idle, unless_later}
use Rattle.tt_records.specs.declared.record.What.{What}
use Rattle.tt_records.specs.declared.record.What.TheVariants.{Write, Read, Preview, Later, NotRepairing}
use Rattle.tt_records.specs.declared.changed.After.{After}
use Rattle.tt_records.specs.declared.changed.After.TheVariants.{Replies}
use Rattle.tt_records.specs.Changes.{answer_now, answer_next, answered_now, answered_next, after_of_slot, change_to, replies_before, as_list}
use Rattle.tt_records.specs.Laws.{NextChangesEndAsChanges}
use Rattle.tt_records.proofs.ChangesLemmas.{right-refused}

-- a repair tells how far it is exactly while it is under way
pub progress-none : (tables : Tables) (phase : Phase) (W : Slots) → progress_in tables phase W ≡ None → is_repairing phase ≡ false
progress-none tables Idle W h = refl
progress-none tables (Repairing E n) W h = cc

pub progress-some : (tables : Tables) (phase : Phase) (W : Slots) (p : Progress) → progress_in tables phase W ≡ Some p → is_repairing phase ≡ true
progress-some tables Idle W p h = cc
progress-some tables (Repairing E n) W p h = refl

-- while a repair is under way, a select that is refused has no answer in the next generation
none_if_refused : (S : State) (q : Select) (time : ℕ) (reply : Reply) (fault : Option CheckError) (e : ReadError) → is_repairing S.phase ≡ true
    → unless_fault fault (unless_idle S.phase (unless_later time (done_of S.phase) reply)) ≡ Err e → answer_next S q time fault ≡ None
none_if_refused S q time reply (Some f) e under_way h = refl
none_if_refused S q time reply None e under_way h = by (nat_lt (done_of S.phase) time) refl (subst (λ b. (if b then unless_later time (done_of S.phase) reply else Err errors.NotRepairing) ≡ Err e) under_way h)
  where
    by : (b : Bool) → nat_lt (done_of S.phase) time ≡ b → unless_later time (done_of S.phase) reply ≡ Err e → answer_next S q time None ≡ None
    by true later g = rw later refl
    by false later g = let clash : ◌≡◌ {A = Result Reply ReadError} (Ok reply) (Err e) = subst (λ b. (if b then Err (errors.Later (done_of S.phase)) else Ok reply) ≡ Err e) later g in cc

pub refused_has_none : (tables : Tables) (S : State) (q : Select) (time : ℕ) (e : ReadError) → is_repairing S.phase ≡ true → e ≢ errors.Memory
    → Answers (right_preview_at tables S q time) (Err e) → answer_next S q time (select_fault tables q) ≡ None
refused_has_none tables S q time e under_way some h =
    none_if_refused S q time _ (select_fault tables q) e under_way (right-refused (right_preview_at tables S q time) e some h)

-- ---- once all slots are done

-- the slots done are the edited ones
slot-ends : (W : Slots) (E : List Edit) (number : ℕ) → next_slot_at (Repairing E (length W)) W number ≡ slot_at (edited_slots W E) number
slot-ends W E zero = ap (λ b. if b then None else None) (let first : nat_lt (length W) 0 ≡ false = grind (arith, nat_tests) in first)
slot-ends W E (suc i) = by (nat_lt (length W) (suc i)) (nat_lt i (length V)) refl refl
  where
    V : Slots
    V = edited_slots W E

    by : (a b : Bool) → nat_lt (length W) (suc i) ≡ a → nat_lt i (length V) ≡ b
        → (if a then None else if b then Some (slot_with_replies V i) else None) ≡ (if b then Some (slot_with_replies V i) else None)
    by false b e f = refl
    by true false e f = refl
    by true true e f =
        let past : length W < suc i = grind (arith, nat_tests) in
        let inside : i < length V = grind (arith, nat_tests) in
        absurd (omega (arith, past, inside, edited_slots_are_as_many W E))

-- and a select is answered by them
answer-ends : (S T : State) (W : Slots) (E : List Edit) (q : Select) (time : ℕ) (fault : Option CheckError) → S.phase ≡ Repairing E (length W) → S.slots ≡ W → T.slots ≡ edited_slots W E
    → answer_next S q time fault ≡ answer_now T q time fault
answer-ends S T W E q time (Some f) phase slots after = refl
answer-ends S T W E q time None phase slots after =
    let V = edited_slots W E in
    let answered : (n m : ℕ) → Option After = λ n m. if nat_lt n time then None else Some (Replies (answer_of q (content_at (row_writes V m) time) ∷ [])) in
    (λ i. if nat_lt (done_of (phase i)) time then None else Some (Replies (answer_of q (next_content_at (phase i) (slots i) time) ∷ [])))
    ∙ ap (λ n. answered n n) (sym (edited_slots_are_as_many W E))
    ∙ (λ i. let U = sym after i in if nat_lt (length U) time then None else Some (Replies (answer_of q (content_at (row_writes U (length U)) time) ∷ [])))

answered-ends : (tables : Tables) (S T : State) (W : Slots) (E : List Edit) (what : What) → S.phase ≡ Repairing E (length W) → S.slots ≡ W → T.slots ≡ edited_slots W E
    → answered_next tables S what ≡ answered_now tables T what
answered-ends tables S T W E (Write slot replies) phase slots after =
    (λ i. option_map after_of_slot (next_slot_at (phase i) (slots i) slot))
    ∙ ap (option_map after_of_slot) (slot-ends W E slot)
    ∙ (λ i. option_map after_of_slot (slot_at (sym after i) slot))
answered-ends tables S T W E (Read select time reply) phase slots after = answer-ends S T W E select time (select_fault tables select) phase slots after
answered-ends tables S T W E (Preview done reply) phase slots after = refl
answered-ends tables S T W E (Later now) phase slots after = refl
answered-ends tables S T W E NotRepairing phase slots after = refl

pub next_changes_end_as_changes : NextChangesEndAsChanges
next_changes_end_as_changes tables limits S E records phase =
    let after : (next_state limits S Switch).slots ≡ edited_slots S.slots E = ap (λ p. slots_edited_by p S.slots) phase in
    λ i. flat_map (λ r. as_list (option_and_then (change_to r.call (replies_before r.what)) (answered-ends tables S (next_state limits S Switch) S.slots E r.what phase refl after i))) records
