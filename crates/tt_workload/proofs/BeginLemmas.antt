-- The beginning of the repair of a document isn't refused.
use Rattle.std.proofs.Common.{◌≡◌, ℕ, suc, ◌+◌, ◌-◌, ◌<◌, ◌≤◌, ◌==◌, ◌||◌, nat_lt, Bool, true, false, List, [], ◌∷◌, ◌++◌, length, map, slice_get, Option, Some, None, refl, sym, ap, subst, ◌∙◌, arith}
use Rattle.std.proofs.lemmas.Bool.Decides.{nat_tests}
use Rattle.std.proofs.lemmas.List.{map-append, length-map}
use Rattle.std.proofs.lemmas.List.Elements.{recursion_from_All, All-weaker}
use Rattle.std.proofs.lemmas.Bool.{le-ltb}
use Rattle.std.specs.List.{AllByRecursion, list_any}
use Rattle.std.specs.Option.{option_or}
use Rattle.tt_values.specs.Tables.{Tables}
use Rattle.tt_repair_laws.specs.declared.edit.Edit.{Edit}
use Rattle.tt_repair_laws.specs.declared.edit.Edit.TheVariants.{Cancel, Replace}
use Rattle.tt_repair_laws.specs.Edits.{slot_number}
use Rattle.tt_generations.specs.TwoGenerations.{is_repairing}
use Rattle.tt_db.specs.declared.limits.Limits.{Limits}
use Rattle.tt_db.specs.declared.event.Event.TheVariants as events
use Rattle.tt_db.specs.State.{State, now_of, full_at, refusal, edits_fault, missing_slot, slot_edited_twice}
use Rattle.tt_db.specs.Database.{Database, state_of, refusal_of}
use Rattle.tt_records.specs.declared.record.Record.{Record}
use Rattle.tt_document.specs.declared.document.Call.{Call}
use Rattle.tt_document.specs.Repair.{is_action_call}
use Rattle.tt_document.specs.declared.document.Document.{Document}
use Rattle.tt_document.specs.declared.document.Plan.{Plan}
use Rattle.tt_document.specs.Document.{edit_fault, IsValidEdit, AreForOtherCalls, IsValidPlan}
use Rattle.tt_workload.specs.History.{before_calls, after_calls, records_of_calls, slot_of_call, edit_of_slot}
use Rattle.tt_workload.specs.Room.{IsBefore}
use Rattle.tt_db.proofs.EntryLemmas.{full_at-below}
use Rattle.tt_workload.proofs.SlotLemmas.{asking, asks_at, slot_at, slots_of, slot_at-least, slot_at-most, slot_at-once, records_of-slot, asks_at-action, now-after_calls}

-- an edit of a call that asks for an action
abbrev pub IsOfAction : List Call → Edit → Type 0
IsOfAction calls e = (1 ≤ slot_number e) × (is_action_call calls (slot_number e) ≡ true)

-- the slot that such a call took
taken : (document : Document) (number : ℕ) → slot_of_call (records_of_calls document) number ≡ slot_at 0 (asking document.calls) (number - 1)
taken document number = records_of-slot 1 (before_calls document) document.calls (number - 1)

asks : (document : Document) (number : ℕ) → is_action_call document.calls number ≡ true → asks_at (asking document.calls) (number - 1) ≡ true
asks document number h = sym (asks_at-action document.calls (number - 1)) ∙ h

slot_number-edit : (records : List Record) (e : Edit) → slot_number (edit_of_slot records e) ≡ slot_of_call records (slot_number e)
slot_number-edit records (Cancel number) = refl
slot_number-edit records (Replace number action) = refl

abbrev slot_of_edit : Document → Edit → ℕ
slot_of_edit document e = slot_at 0 (asking document.calls) (slot_number e - 1)

number-edit : (document : Document) (e : Edit) → slot_number (edit_of_slot (records_of_calls document) e) ≡ slot_of_edit document e
number-edit document e = slot_number-edit (records_of_calls document) e ∙ taken document (slot_number e)

-- ---- no edit has a fault

pub edits_fault-none : (tables : Tables) (records : List Record) (edits : List Edit) → AllByRecursion (λ e. edit_fault tables e ≡ None) edits
    → edits_fault tables (map (edit_of_slot records) edits) ≡ None
edits_fault-none tables records [] h = refl
edits_fault-none tables records (Cancel number ∷ E) h = edits_fault-none tables records E h.1
edits_fault-none tables records (Replace number action ∷ E) h =
    ap (λ o. option_or o (edits_fault tables (map (edit_of_slot records) E))) h.0 ∙ edits_fault-none tables records E h.1

-- ---- each slot is there

there-test : (n slots : ℕ) → 0 < n → n ≤ slots → ((n == 0) || nat_lt slots n) ≡ false
there-test n slots some most = grind (arith, nat_tests, some, most)

pub missing_slot-none : (document : Document) (edits : List Edit) → AllByRecursion (IsOfAction document.calls) edits
    → missing_slot (slots_of 0 (asking document.calls)) (map (edit_of_slot (records_of_calls document)) edits) ≡ None
missing_slot-none document [] h = refl
missing_slot-none document (e ∷ E) h =
    let slot = number-edit document e in
    let some = slot_at-least 0 (asking document.calls) (slot_number e - 1) (asks document (slot_number e) h.0.1) in
    let most = slot_at-most 0 (asking document.calls) (slot_number e - 1) in
    rw (there-test (slot_number (edit_of_slot (records_of_calls document) e)) (slots_of 0 (asking document.calls)) (subst (λ n. 0 < n) (sym slot) some) (subst (λ n. n ≤ slots_of 0 (asking document.calls)) (sym slot) most))
    (missing_slot-none document E h.1)

-- ---- no two are of one slot

same-test : (a b c d : ℕ) → (c ≡ d → a ≡ b) → (a == b) ≡ false → (c == d) ≡ false
same-test a b c d once differ = by (c == d) refl
  where
    by : (t : Bool) → (c == d) ≡ t → t ≡ false
    by true e = let is : a ≡ b = once (grind (arith, nat_tests, e)) in let clash : (a == b) ≡ true = grind (arith, nat_tests, is) in cc
    by false e = refl

once : (document : Document) (d e : Edit) → IsOfAction document.calls d → IsOfAction document.calls e
    → slot_number (edit_of_slot (records_of_calls document) e) ≡ slot_number (edit_of_slot (records_of_calls document) d) → slot_number e ≡ slot_number d
once document d e of_d of_e same =
    let at : slot_number e - 1 ≡ slot_number d - 1 = slot_at-once 0 (asking document.calls) (slot_number e - 1) (slot_number d - 1) (asks document (slot_number e) of_e.1) (asks document (slot_number d) of_d.1)
    (sym (number-edit document e) ∙ same ∙ number-edit document d) in
    omega (arith, at, of_d.0, of_e.0)

or-false : (a b c d : Bool) → (a || b) ≡ false → (a ≡ false → c ≡ false) → (b ≡ false → d ≡ false) → (c || d) ≡ false
or-false true b c d h first rest = cc
or-false false b c d h first rest = ap (λ x. x || d) (first refl) ∙ rest h

none_earlier : (document : Document) (e : Edit) (earlier : List Edit) → IsOfAction document.calls e → AllByRecursion (IsOfAction document.calls) earlier
    → list_any (λ d. slot_number e == slot_number d) earlier ≡ false
    → list_any (λ d. slot_number (edit_of_slot (records_of_calls document) e) == slot_number d) (map (edit_of_slot (records_of_calls document)) earlier) ≡ false
none_earlier document e [] of_e h none = refl
none_earlier document e (d ∷ earlier) of_e h none =
    let f = edit_of_slot (records_of_calls document) in
    or-false (slot_number e == slot_number d) (list_any (λ d. slot_number e == slot_number d) earlier)
    (slot_number (f e) == slot_number (f d)) (list_any (λ d. slot_number (f e) == slot_number d) (map f earlier)) none
    (same-test (slot_number e) (slot_number d) (slot_number (f e)) (slot_number (f d)) (once document d e h.0 of_e))
    (none_earlier document e earlier of_e h.1)

all-push : {X : Type 0} (P : X → Type 0) (xs : List X) (x : X) → AllByRecursion P xs → P x → AllByRecursion P (xs ++ x ∷ [])
all-push P [] x h p = (p, tt)
all-push P (y ∷ xs) x h p = (h.0, all-push P xs x h.1 p)

pub edited_twice-none : (document : Document) (earlier edits : List Edit) → AllByRecursion (IsOfAction document.calls) earlier → AllByRecursion (IsOfAction document.calls) edits → AreForOtherCalls earlier edits
    → slot_edited_twice (map (edit_of_slot (records_of_calls document)) earlier) (map (edit_of_slot (records_of_calls document)) edits) ≡ None
edited_twice-none document earlier [] h k others = refl
edited_twice-none document earlier (e ∷ E) h k others =
    let f = edit_of_slot (records_of_calls document) in
    let rest = edited_twice-none document (earlier ++ e ∷ []) E (all-push (IsOfAction document.calls) earlier e h k.0) k.1 others.1 in
    rw (none_earlier document e earlier k.0 h others.0) (subst (λ ds. slot_edited_twice ds (map f E) ≡ None) (map-append f earlier (e ∷ [])) rest)

-- ---- the whole refusal

accepted-begin : (tables : Tables) (limits : Limits) (S : State) (edits : List Edit) → edits_fault tables edits ≡ None → is_repairing S.phase ≡ false
    → missing_slot (now_of S) edits ≡ None → slot_edited_twice [] edits ≡ None → nat_lt limits.edits (length edits) ≡ false → full_at S.events limits.events ≡ None
    → refusal tables limits S (events.Begin edits) ≡ None
accepted-begin tables limits S edits fault idle there once few room = rw (fault, idle, there, once, few, room) refl

pub begin_is_accepted : (document : Document) (plan : Plan) (db : Database) → IsValidPlan document.catalog document.workers document.calls plan
    → db ≡ after_calls document → length document.calls ≤ 100000 → IsBefore (length document.calls) db
    → refusal_of db (events.Begin (map (edit_of_slot (records_of_calls document)) plan.edits)) ≡ None
begin_is_accepted document plan db valid is few before =
    let calls = document.calls in
    let f = edit_of_slot (records_of_calls document) in
    let edits = map f plan.edits in
    let of_action = recursion_from_All (IsOfAction calls) plan.edits (All-weaker (IsValidEdit document.catalog calls) (IsOfAction calls) (λ e h. (h.from_one, h.of_action)) plan.edits valid.valid_edits) in
    let sound = recursion_from_All (λ e. edit_fault document.catalog e ≡ None) plan.edits
    (All-weaker (IsValidEdit document.catalog calls) (λ e. edit_fault document.catalog e ≡ None) (λ e h. h.is_accepted) plan.edits valid.valid_edits) in
    let fault = edits_fault-none document.catalog (records_of_calls document) plan.edits sound in
    let now : now_of (state_of db) ≡ slots_of 0 (asking calls) = ap (λ (d : Database). now_of (state_of d)) is ∙ now-after_calls (before_calls document) calls in
    let there = subst (λ n. missing_slot n edits ≡ None) (sym now) (missing_slot-none document plan.edits of_action) in
    let once = edited_twice-none document [] plan.edits tt of_action valid.each_once in
    let limit = ap (λ (l : Limits). l.edits) before.limits in
    let many : nat_lt db.limits.edits (length edits) ≡ false = le-ltb db.limits.edits (length edits) (omega (arith, limit, length-map plan.edits f, valid.few_edits)) in
    let room = full_at-below (state_of db).events db.limits.events (omega (arith, ap (λ (l : Limits). l.events) before.limits, before.slots, before.events, few)) in
    accepted-begin db.catalog db.limits (state_of db) edits (subst (λ (ts : Tables). edits_fault ts edits ≡ None) (sym (ap (λ (d : Database). d.catalog) is)) fault) before.idle there once many room
