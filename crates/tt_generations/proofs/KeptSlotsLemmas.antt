-- What is kept of slots: one more, another in the place of one, and all those of the next generation.
use Rattle.std.proofs.Common.{◌≡◌, ℕ, zero, suc, ◌<◌, ◌≤◌, ◌+◌, Bool, true, false, ◌==◌, nat_lt, List, [], ◌∷◌, ◌++◌, length, slice_get, slice_set, Option, None, Some, if◌then◌else◌, refl, sym, ap, subst, ◌∙◌, arith, length-append}
use Rattle.std.proofs.lemmas.Bool.Decides.{nat_tests}
use Rattle.std.proofs.lemmas.List.{length-map, map-append}
use Rattle.std.proofs.lemmas.List.Elements.{All-nil, All-cons, recursion_from_All}
use Rattle.std.specs.List.{All, AllByRecursion}
use Rattle.tt_values.specs.declared.action.Action.{Action}
use Rattle.tt_values.specs.Content.{Content}
use Rattle.tt_values.specs.RowWrites.{Slots, slot_after, slot_replies, content_of}
use Rattle.tt_values.proofs.LawProofs.{added_slot_leaves_past, earlier_slots_stay, added_slot_is_next}
use Rattle.tt_repair_laws.specs.declared.edit.Edit.{Edit}
use Rattle.tt_repair_laws.specs.declared.edit.Edit.TheVariants.{Cancel, Replace}
use Rattle.tt_repair_laws.specs.Edits.{edit_of, edited_slots, edited_slots_from, slot_with_edit, slot_number, HasNoFault}
use Rattle.tt_values.specs.Tables.{Tables}
use Rattle.tt_repair_laws.specs.Due.{content_after, is_due, slot_rows_touched}
use Rattle.tt_repair_laws.proofs.LawProofs.{edited_slots_are_as_many, later_slots_stay, no_affected_slot_is_missed, content_after_is_kept}
use Rattle.tt_generations.specs.declared.slot.KeptSlot.{KeptSlot}
use Rattle.tt_generations.specs.KeptSlots.{last_content, kept_slot, actions_of, AreKept, IsAccepted, AreAccepted}
use Rattle.tt_generations.specs.TwoGenerations.{NamesSlot}
use Rattle.tt_generations.specs.Generations.{next_kept_slot}
use Rattle.tt_generations.proofs.ListLemmas.{slice_get-append_left, slice_get-append_at}

-- kept slots by another rule that says the same of each
pub AreKept-same : (kept : List KeptSlot) (at next : ℕ → KeptSlot) (n : ℕ) → AreKept kept at n → ((i : ℕ) → i < n → at i ≡ next i) → AreKept kept next n
AreKept-same kept at next n are same = record { as_many = are.as_many; each = λ i h. are.each i h ∙ ap Some (same i h) }

-- one more
pub AreKept-push : (kept : List KeptSlot) (at next : ℕ → KeptSlot) (n : ℕ) (k : KeptSlot) → AreKept kept at n → ((i : ℕ) → i < n → at i ≡ next i) → k ≡ next n → AreKept (kept ++ k ∷ []) next (n + 1)
AreKept-push kept at next n k are same last = record {
  as_many = omega (arith, are.as_many, length-append kept (k ∷ []));
  each = λ i h. by i h (nat_lt i n) refl;
}
  where
    by : (i : ℕ) → i < n + 1 → (b : Bool) → nat_lt i n ≡ b → slice_get (kept ++ k ∷ []) i ≡ Some (next i)
    by i h true e =
        let among : i < n = grind (arith, nat_tests) in
        slice_get-append_left kept (k ∷ []) i (omega (arith, among, are.as_many)) ∙ are.each i among ∙ ap Some (same i among)
    by i h false e =
        let not_before : n < i + 1 = grind (arith, nat_tests) in
        let end : i ≡ length kept = omega (arith, are.as_many, not_before, h) in
        ap (slice_get (kept ++ k ∷ [])) end ∙ slice_get-append_at kept (k ∷ []) ∙ ap Some (last ∙ ap next (omega (arith, end, are.as_many)))

slice_get-set_same : {X : Type 0} (xs : List X) (p : ℕ) (x : X) → p < length xs → slice_get (slice_set xs p x) p ≡ Some x
slice_get-set_same [] p x h = absurd (omega arith)
slice_get-set_same (y ∷ xs) zero x h = refl
slice_get-set_same (y ∷ xs) (suc p) x h = slice_get-set_same xs p x (omega arith)

slice_get-set_other : {X : Type 0} (xs : List X) (p : ℕ) (x : X) (i : ℕ) → (i == p) ≡ false → slice_get (slice_set xs p x) i ≡ slice_get xs i
slice_get-set_other [] p x i h = refl
slice_get-set_other (y ∷ xs) zero x zero h = cc
slice_get-set_other (y ∷ xs) zero x (suc i) h = refl
slice_get-set_other (y ∷ xs) (suc p) x zero h = refl
slice_get-set_other (y ∷ xs) (suc p) x (suc i) h = slice_get-set_other xs p x i (let differ : (i == p) ≡ false = grind (arith, nat_tests) in differ)

length-set : {X : Type 0} (xs : List X) (p : ℕ) (x : X) → length (slice_set xs p x) ≡ length xs
length-set [] p x = refl
length-set (y ∷ xs) zero x = refl
length-set (y ∷ xs) (suc p) x = ap suc (length-set xs p x)

-- another in the place of one
pub AreKept-set : (kept : List KeptSlot) (at next : ℕ → KeptSlot) (n p : ℕ) (k : KeptSlot) → AreKept kept at n → p < n → ((i : ℕ) → i < n → (i == p) ≡ false → at i ≡ next i) → k ≡ next p → AreKept (slice_set kept p k) next n
AreKept-set kept at next n p k are inside same new = record {
  as_many = length-set kept p k ∙ are.as_many;
  each = λ i h. by i h (i == p) refl;
}
  where
    by : (i : ℕ) → i < n → (b : Bool) → (i == p) ≡ b → slice_get (slice_set kept p k) i ≡ Some (next i)
    by i h true e =
        let here : i ≡ p = grind (arith, nat_tests) in
        ap (slice_get (slice_set kept p k)) here ∙ slice_get-set_same kept p k (omega (arith, inside, are.as_many)) ∙ ap Some (new ∙ ap next (sym here))
    by i h false e = slice_get-set_other kept p k i e ∙ are.each i h ∙ ap Some (same i h e)

-- the earlier slots are kept as they were
pub kept_slot-append : (W : Slots) (s : Option Action) (n : ℕ) → n < length W → kept_slot W n ≡ kept_slot (W ++ s ∷ []) n
kept_slot-append W s n h =
    let slot = sym (earlier_slots_stay W (s ∷ []) n h) in
    let content = sym (added_slot_leaves_past W s n (omega arith)) in
    λ i. record { slot = record { action = slot i; replies = slot_replies (slot i) (content i) }; rows = slot_rows_touched (slot i) (content i) }

-- what is kept of a slot with this action, by its replies and its rows
pub kept_slot-is : (W : Slots) (n : ℕ) (s : Option Action) (X : Content) (k : KeptSlot) → slot_after W n ≡ s → content_of W n ≡ X
    → k.slot.action ≡ s → k.slot.replies ≡ slot_replies s X → k.rows ≡ slot_rows_touched s X → k ≡ kept_slot W n
kept_slot-is W n s X k slot content action replies rows =
    (λ i. record { slot = record { action = action i; replies = replies i }; rows = rows i })
    ∙ (λ i. record { slot = record { action = sym slot i; replies = slot_replies (sym slot i) (sym content i) }; rows = slot_rows_touched (sym slot i) (sym content i) })

-- a new slot is the last
pub kept_slot-last : (W : Slots) (s : Option Action) (k : KeptSlot) → k.slot.action ≡ s → k.slot.replies ≡ slot_replies s (last_content W) → k.rows ≡ slot_rows_touched s (last_content W)
    → k ≡ kept_slot (W ++ s ∷ []) (length W)
kept_slot-last W s k = kept_slot-is (W ++ s ∷ []) (length W) s (last_content W) k (added_slot_is_next W s) (added_slot_leaves_past W s (length W) (omega arith))

pub actions-push : (kept : List KeptSlot) (k : KeptSlot) → actions_of (kept ++ k ∷ []) ≡ actions_of kept ++ k.slot.action ∷ []
actions-push kept k = map-append (λ t. t.slot.action) kept (k ∷ [])

-- no edit names a slot that isn't there
no_later_edit-each : (W : Slots) (E : List Edit) → AllByRecursion (NamesSlot W) E → (t : ℕ) → length W < t → edit_of E t ≡ None
no_later_edit-each W [] all t h = refl
no_later_edit-each W (e ∷ E) all t h = by (slot_number e == t) refl (no_later_edit-each W E all.1 t h)
  where
    by : (b : Bool) → (slot_number e == t) ≡ b → edit_of E t ≡ None → (if b then Some e else edit_of E t) ≡ None
    by true same rest = let clash : slot_number e ≡ t = grind (arith, nat_tests) in absurd (omega (arith, clash, h, all.0.1))
    by false other rest = rest

pub no_later_edit : (W : Slots) (E : List Edit) → All (NamesSlot W) E → (t : ℕ) → length W < t → edit_of E t ≡ None
no_later_edit W E all = no_later_edit-each W E (recursion_from_All (NamesSlot W) E all)

-- slots that are named stay there
NamesSlot-append : (W : Slots) (s : Option Action) (e : Edit) → NamesSlot W e → NamesSlot (W ++ s ∷ []) e
NamesSlot-append W s e names = (names.0, omega (arith, names.1, length-append W (s ∷ [])))

named-each : (W : Slots) (s : Option Action) (E : List Edit) → AllByRecursion (NamesSlot W) E → All (NamesSlot (W ++ s ∷ [])) E
named-each W s [] all = All-nil (NamesSlot (W ++ s ∷ []))
named-each W s (e ∷ E) all = All-cons (NamesSlot (W ++ s ∷ [])) e E (NamesSlot-append W s e all.0) (named-each W s E all.1)

pub named-append : (W : Slots) (s : Option Action) (E : List Edit) → All (NamesSlot W) E → All (NamesSlot (W ++ s ∷ [])) E
named-append W s E all = named-each W s E (recursion_from_All (NamesSlot W) E all)

-- the edited slots are accepted where the slots and the edits are
accepted-at : (tables : Tables) (W : Slots) → AllByRecursion (IsAccepted tables) W → (n : ℕ) → IsAccepted tables (slot_after W n)
accepted-at tables [] all n = tt
accepted-at tables (s ∷ W) all zero = all.0
accepted-at tables (s ∷ W) all (suc n) = accepted-at tables W all.1 n

pub AreAccepted-at : (tables : Tables) (W : Slots) → AreAccepted tables W → (n : ℕ) → IsAccepted tables (slot_after W n)
AreAccepted-at tables W all = accepted-at tables W (recursion_from_All (IsAccepted tables) W all)

accepted-push : (tables : Tables) (W : Slots) (s : Option Action) → AllByRecursion (IsAccepted tables) W → IsAccepted tables s → All (IsAccepted tables) (W ++ s ∷ [])
accepted-push tables [] s all is = All-cons (IsAccepted tables) s [] is (All-nil (IsAccepted tables))
accepted-push tables (x ∷ W) s all is = All-cons (IsAccepted tables) x (W ++ s ∷ []) all.0 (accepted-push tables W s all.1 is)

pub AreAccepted-push : (tables : Tables) (W : Slots) (s : Option Action) → AreAccepted tables W → IsAccepted tables s → AreAccepted tables (W ++ s ∷ [])
AreAccepted-push tables W s all = accepted-push tables W s (recursion_from_All (IsAccepted tables) W all)

accepted_edit : (tables : Tables) (E : List Edit) (t : ℕ) (s : Option Action) → AllByRecursion (HasNoFault tables) E → IsAccepted tables s → IsAccepted tables (slot_with_edit (edit_of E t) s)
accepted_edit tables [] t s all is = is
accepted_edit tables (Cancel n ∷ E) t s all is = by (n == t) (accepted_edit tables E t s all.1 is)
  where
    by : (b : Bool) → IsAccepted tables (slot_with_edit (edit_of E t) s) → IsAccepted tables (slot_with_edit (if b then Some (Cancel n) else edit_of E t) s)
    by true rest = tt
    by false rest = rest
accepted_edit tables (Replace n action ∷ E) t s all is = by (n == t) (accepted_edit tables E t s all.1 is)
  where
    by : (b : Bool) → IsAccepted tables (slot_with_edit (edit_of E t) s) → IsAccepted tables (slot_with_edit (if b then Some (Replace n action) else edit_of E t) s)
    by true rest = all.0
    by false rest = rest

accepted_from : (tables : Tables) (t : ℕ) (W : Slots) (E : List Edit) → AllByRecursion (IsAccepted tables) W → AllByRecursion (HasNoFault tables) E → All (IsAccepted tables) (edited_slots_from t W E)
accepted_from tables t [] E all edits = All-nil (IsAccepted tables)
accepted_from tables t (s ∷ W) E all edits = All-cons (IsAccepted tables) (slot_with_edit (edit_of E t) s) (edited_slots_from (suc t) W E) (accepted_edit tables E t s edits all.0) (accepted_from tables (suc t) W E all.1 edits)

pub AreAccepted-edited : (tables : Tables) (W : Slots) (E : List Edit) → AreAccepted tables W → All (HasNoFault tables) E → AreAccepted tables (edited_slots W E)
AreAccepted-edited tables W E all edits = accepted_from tables 1 W E (recursion_from_All (IsAccepted tables) W all) (recursion_from_All (HasNoFault tables) E edits)

-- slots that are added stay behind the edited ones
pub edited-append : (W : Slots) (s : Option Action) (E : List Edit) → All (NamesSlot W) E → edited_slots (W ++ s ∷ []) E ≡ edited_slots W E ++ s ∷ []
edited-append W s E named = later_slots_stay W (s ∷ []) E (no_later_edit W E named)

pub next_kept_slot-append : (W : Slots) (s : Option Action) (E : List Edit) (n i : ℕ) → All (NamesSlot W) E → i < length W → next_kept_slot W E n i ≡ next_kept_slot (W ++ s ∷ []) E n i
next_kept_slot-append W s E n i named h =
    let edited : kept_slot (edited_slots W E) i ≡ kept_slot (edited_slots (W ++ s ∷ []) E) i =
    kept_slot-append (edited_slots W E) s i (omega (arith, h, edited_slots_are_as_many W E)) ∙ ap (λ V. kept_slot V i) (sym (edited-append W s E named)) in
    λ j. if nat_lt i n then edited j else kept_slot-append W s i h j

pub next_kept_slot-last : (W : Slots) (s : Option Action) (E : List Edit) (n : ℕ) → n ≤ length W → kept_slot (W ++ s ∷ []) (length W) ≡ next_kept_slot (W ++ s ∷ []) E n (length W)
next_kept_slot-last W s E n h = by (nat_lt (length W) n) refl
  where
    by : (b : Bool) → nat_lt (length W) n ≡ b → kept_slot (W ++ s ∷ []) (length W) ≡ (if b then kept_slot (edited_slots (W ++ s ∷ []) E) (length W) else kept_slot (W ++ s ∷ []) (length W))
    by true e = absurd (let less : length W < n = grind (arith, nat_tests) in omega (arith, less, h))
    by false e = refl

-- at the start they are those of the current generation
pub next_kept_slot-first : (W : Slots) (E : List Edit) (i : ℕ) → kept_slot W i ≡ next_kept_slot W E 0 i
next_kept_slot-first W E i = by (nat_lt i 0) refl
  where
    by : (b : Bool) → nat_lt i 0 ≡ b → kept_slot W i ≡ (if b then kept_slot (edited_slots W E) i else kept_slot W i)
    by true e = absurd (let less : i < 0 = grind (arith, nat_tests) in omega (arith, less))
    by false e = refl

-- a step changes what is kept of its own slot alone
pub next_kept_slot-other : (W : Slots) (E : List Edit) (n i : ℕ) → (i == n) ≡ false → next_kept_slot W E n i ≡ next_kept_slot W E (suc n) i
next_kept_slot-other W E n i other = ap (λ b. if b then kept_slot (edited_slots W E) i else kept_slot W i) same
  where
    same : nat_lt i n ≡ nat_lt i (suc n)
    same = grind (arith, nat_tests)

pub next_kept_slot-done : (W : Slots) (E : List Edit) (n : ℕ) → kept_slot (edited_slots W E) n ≡ next_kept_slot W E (suc n) n
next_kept_slot-done W E n = ap (λ b. if b then kept_slot (edited_slots W E) n else kept_slot W n) (let here : true ≡ nat_lt n (suc n) = grind (arith, nat_tests) in here)

pub next_kept_slot-left : (W : Slots) (E : List Edit) (n : ℕ) → next_kept_slot W E n n ≡ kept_slot W n
next_kept_slot-left W E n = ap (λ b. if b then kept_slot (edited_slots W E) n else kept_slot W n) (let here : nat_lt n n ≡ false = grind (arith, nat_tests) in here)

-- a slot that isn't due is kept as it was
pub kept_slot-undue : (tables : Tables) (W : Slots) (E : List Edit) (n : ℕ) → n < length W → is_due tables W E n ≡ false → kept_slot W n ≡ kept_slot (edited_slots W E) n
kept_slot-undue tables W E n h undue =
    let V = edited_slots W E in
    let same = no_affected_slot_is_missed tables W E n undue in
    let now = content_after_is_kept W n (omega (arith, h)) in
    let edited = content_after_is_kept V n (omega (arith, h, edited_slots_are_as_many W E)) in
    kept_slot-is V n (slot_after V n) (content_after V n) (kept_slot W n) refl edited (sym same.slot)
    (ap (slot_replies (slot_after W n)) now ∙ sym same.replies)
    (ap (slot_rows_touched (slot_after W n)) now ∙ sym same.touched)

-- once all are done, the slots are the edited ones
slots-equal : (xs ys : Slots) → length xs ≡ length ys → ((i : ℕ) → i < length xs → slot_after xs i ≡ slot_after ys i) → xs ≡ ys
slots-equal [] [] many same = refl
slots-equal [] (y ∷ ys) many same = cc
slots-equal (x ∷ xs) [] many same = cc
slots-equal (x ∷ xs) (y ∷ ys) many same =
    let first : x ≡ y = same 0 (omega arith) in
    let rest = slots-equal xs ys (omega (arith, many)) (λ i h. same (suc i) (omega (arith, h))) in
    λ i. first i ∷ rest i

slot_after-kept : (kept : List KeptSlot) (i : ℕ) (k : KeptSlot) → slice_get kept i ≡ Some k → slot_after (actions_of kept) i ≡ k.slot.action
slot_after-kept [] i k h = cc
slot_after-kept (x ∷ kept) zero k h = let same : x ≡ k = cc in ap (λ t. t.slot.action) same
slot_after-kept (x ∷ kept) (suc i) k h = slot_after-kept kept i k h

pub actions-kept : (kept : List KeptSlot) (W : Slots) → AreKept kept (kept_slot W) (length W) → actions_of kept ≡ W
actions-kept kept W are =
    let many : length (actions_of kept) ≡ length W = length-map kept (λ t. t.slot.action) ∙ are.as_many in
    slots-equal (actions_of kept) W many (λ i h. slot_after-kept kept i (kept_slot W i) (are.each i (omega (arith, h, many))))

pub AreKept-all_done : (kept : List KeptSlot) (W : Slots) (E : List Edit) → AreKept kept (next_kept_slot W E (length W)) (length W) → AreKept kept (kept_slot (edited_slots W E)) (length (edited_slots W E))
AreKept-all_done kept W E are = subst (AreKept kept (kept_slot (edited_slots W E))) (sym (edited_slots_are_as_many W E))
    (AreKept-same kept (next_kept_slot W E (length W)) (kept_slot (edited_slots W E)) (length W) are (λ i h. by i (nat_lt i (length W)) (let inside : nat_lt i (length W) ≡ true = grind (arith, nat_tests) in inside)))
  where
    by : (i : ℕ) (b : Bool) → b ≡ true → (if b then kept_slot (edited_slots W E) i else kept_slot W i) ≡ kept_slot (edited_slots W E) i
    by i true e = refl
    by i false e = cc
