-- The causes of the slots that are due.
use Rattle.std.proofs.Common.{◌≡◌, ℕ, zero, suc, pred, ◌+◌, ◌<◌, ◌≤◌, Bool, true, false, not, ◌||◌, List, ◌++◌, ◌⊎◌, length, filter_map, Option, None, Some, is_some, option_map, option_and_then, if◌then◌else◌, inl, inr, refl, sym, ap, subst, ◌∙◌, arith, zero-add, true≢false}
use Rattle.std.specs.List.{range_with_len, cons_option}
use Rattle.std.specs.Option.{option_or, option_map_or}
use Rattle.std.proofs.lemmas.Option.{option_and_then_some}
use Rattle.tt_values.specs.Tables.{Tables}
use Rattle.tt_values.specs.declared.action.Action.{Action}
use Rattle.tt_values.specs.Content.{Content, content_at}
use Rattle.tt_values.specs.RowWrites.{Slots, slot_after}
use Rattle.tt_values.proofs.LawProofs.{earlier_slots_stay, later_slots_change_nothing}
use Rattle.tt_parts.specs.Dirty.{DirtySet, has_row, has_row_of, has_partition}
use Rattle.tt_repair_laws.specs.declared.edit.Edit.{Edit}
use Rattle.tt_repair_laws.specs.Edits.{edit_of}
use Rattle.tt_repair_laws.specs.Due.{content_after, slot_rows_touched, is_slot_affected, is_due, dirty_after, reexecuted_count}
use Rattle.tt_repair_laws.specs.Laws.{IsSameRepair}
use Rattle.tt_repair_laws.proofs.LawProofs.{undue_slots_dirty_nothing, due_slots_are_reexecuted, undue_slots_are_not_reexecuted, no_slot_is_reexecuted_at_first, later_slots_change_no_repair}
use Rattle.tt_causes.specs.Causes.{Cause, Edited, Wrote, Names, Reads, Scans, since, slot_action_writes, is_affected_after, affected_since, first_dirty_row, first_row_named, first_partition_read, first_table_scanned, cause_by, cause_since, cause, causes, leads_to_edit}
use Rattle.tt_causes.specs.Laws.{DueSlotsHaveCause, CausesAreAsMany, GotDirtyWith, NamesWhatGotDirty, CausesNameWhatGotDirty, CausesLeadToAnEdit, LaterSlotsChangeNoCause}
use Rattle.tt_causes.proofs.SearchLemmas.{none_is_some, same_value, from_either, from_map, found_passes, found_in_range, none_before, none_in_range, find_agree}
use Rattle.tt_causes.proofs.DirtyLemmas.{Grows-later, affected_later, affected_at_first}
use Rattle.tt_causes.proofs.NamedLemmas.{cause_is_found, IsNew, touched_is_new, named_is_new, read_is_new, scanned_is_new}

-- the slot since which another may be affected: it is due, and stands before the other
record IsSince (tables : Tables) (W : Slots) (E : List Edit) (n m : ℕ) : Type 0 where
  first : 0 < m
  last : m ≤ n
  due : is_due tables W E (pred m) ≡ true
  now : is_affected_after tables W E n m ≡ true
  not_before : is_affected_after tables W E n (pred m) ≡ false

module _ (tables : Tables) (W : Slots) (E : List Edit) (n : ℕ) where
  -- the slot before the first with which it may be affected leaves it unaffected
  unaffected_before : (m : ℕ) → affected_since tables W E n ≡ Some m → 0 < m → is_affected_after tables W E n (pred m) ≡ false
  unaffected_before zero e h = let none : ⊥ = omega (arith, h) in absurd none
  unaffected_before (suc zero) e h = affected_at_first tables W E (slot_after W n) (content_after W n)
  unaffected_before (suc (suc m)) e h = none_before (is_affected_after tables W E n) 1 n (suc (suc m)) e (suc m) (omega arith) (omega arith)

  -- so it is due
  due_before : (m : ℕ) → 0 < m → is_affected_after tables W E n m ≡ true → is_affected_after tables W E n (pred m) ≡ false → is_due tables W E (pred m) ≡ true
  due_before zero h now not_before = let none : ⊥ = omega (arith, h) in absurd none
  due_before (suc m) h now not_before = by (is_due tables W E m) refl
    where
      by : (b : Bool) → is_due tables W E m ≡ b → b ≡ true
      by true e = refl
      by false e = absurd (true≢false (sym now ∙ ap (λ D. is_slot_affected tables D (slot_after W n) (content_after W n)) (undue_slots_dirty_nothing tables W E m e) ∙ not_before))

  is_since : (m : ℕ) → affected_since tables W E n ≡ Some m → IsSince tables W E n m
  is_since m e =
      let range = found_in_range (is_affected_after tables W E n) 1 n m e in
      let now = found_passes (is_affected_after tables W E n) (range_with_len 1 n) m e in
      let before = unaffected_before m e (omega (arith, range.0)) in
      record {
        first = omega (arith, range.0);
        last = omega (arith, range.1);
        due = due_before m (omega (arith, range.0)) now before;
        now = now;
        not_before = before;
      }

  -- there is such a slot exactly where the other may be affected
  affected_at : (b : Bool) → is_affected_after tables W E n n ≡ b → is_some (affected_since tables W E n) ≡ b
  affected_at b h = by (affected_since tables W E n) refl
    where
      none : affected_since tables W E n ≡ None → (k : ℕ) → k ≡ n → is_affected_after tables W E n n ≡ false
      none e zero same = ap (is_affected_after tables W E n) (sym same) ∙ affected_at_first tables W E (slot_after W n) (content_after W n)
      none e (suc k) same = none_in_range (is_affected_after tables W E n) 1 n e n (omega (arith, same)) (omega arith)

      by : (o : Option ℕ) → affected_since tables W E n ≡ o → is_some o ≡ b
      by None e = sym (none e n refl) ∙ h
      by (Some m) e =
          let s = is_since m e in
          sym (affected_later tables (dirty_after tables W E m) (dirty_after tables W E n) (Grows-later tables W E m n s.last) (slot_after W n) (content_after W n) s.now) ∙ h

  -- a cause is found wherever there is such a slot
  is_some-cause : (o : Option ℕ) → affected_since tables W E n ≡ o → is_some (option_and_then (cause_since tables W E n) o) ≡ is_some o
  is_some-cause None e = refl
  is_some-cause (Some m) e =
      let s = is_since m e in
      cause_is_found tables (dirty_after tables W E (pred m)) (dirty_after tables W E m) (slot_after W n) (content_after W n) m s.not_before s.now

  has_cause : is_some (cause tables W E n) ≡ is_due tables W E n
  has_cause = by (is_some (edit_of E (suc n)))
    where
      affected : is_some (option_and_then (cause_since tables W E n) (affected_since tables W E n)) ≡ is_affected_after tables W E n n
      affected = is_some-cause (affected_since tables W E n) refl ∙ affected_at (is_affected_after tables W E n n) refl

      by : (b : Bool) → is_some (if b then Some Edited else option_and_then (cause_since tables W E n) (affected_since tables W E n)) ≡ (b || is_affected_after tables W E n n)
      by true = refl
      by false = affected

  -- what is new with such a slot got dirty with it
  got_dirty : (m : ℕ) → IsSince tables W E n m → (test : DirtySet → Bool) → IsNew (dirty_after tables W E (pred m)) (dirty_after tables W E m) test → GotDirtyWith tables W E n m test
  got_dirty m s test new = record { first = s.first; last = s.last; due = s.due; after = new.now; before = new.not_before }

  names_since : (m : ℕ) → IsSince tables W E n m → (c : Cause) → cause_since tables W E n m ≡ Some c → NamesWhatGotDirty tables W E n c
  names_since m s c e = by_touched (from_either (option_map (λ r. Wrote r m) (first_dirty_row D (slot_rows_touched slot X))) _ c e)
    where
      before : DirtySet
      before = dirty_after tables W E (pred m)

      D : DirtySet
      D = dirty_after tables W E m

      slot : Option Action
      slot = slot_after W n

      X : Content
      X = content_after W n

      Is : Cause → Type 0
      Is = NamesWhatGotDirty tables W E n

      by_scanned : option_map (λ t. Scans t m) (first_table_scanned tables D (slot_action_writes slot)) ≡ Some c → Is c
      by_scanned g =
          let from = from_map (λ t. Scans t m) (first_table_scanned tables D (slot_action_writes slot)) c g in
          subst Is from.2 (got_dirty m s (λ C. has_row_of C from.0) (scanned_is_new tables before D slot X s.not_before from.0 from.1))

      by_read : (option_map (λ p. Reads p m) (first_partition_read tables before D (slot_action_writes slot)) ≡ Some c) ⊎ (option_map (λ t. Scans t m) (first_table_scanned tables D (slot_action_writes slot)) ≡ Some c) → Is c
      by_read (inl g) =
          let from = from_map (λ p. Reads p m) (first_partition_read tables before D (slot_action_writes slot)) c g in
          subst Is from.2 (got_dirty m s (λ C. has_partition C from.0) (read_is_new tables before D slot X s.not_before from.0 from.1))
      by_read (inr g) = by_scanned g

      by_named : (option_map (λ r. Names r m) (first_row_named D (slot_action_writes slot)) ≡ Some c)
          ⊎ (option_or (option_map (λ p. Reads p m) (first_partition_read tables before D (slot_action_writes slot))) (option_map (λ t. Scans t m) (first_table_scanned tables D (slot_action_writes slot))) ≡ Some c) → Is c
      by_named (inl g) =
          let from = from_map (λ r. Names r m) (first_row_named D (slot_action_writes slot)) c g in
          subst Is from.2 (got_dirty m s (λ C. has_row C from.0.table from.0.key) (named_is_new tables before D slot X s.not_before from.0 from.1))
      by_named (inr g) = by_read (from_either _ _ c g)

      by_touched : (option_map (λ r. Wrote r m) (first_dirty_row D (slot_rows_touched slot X)) ≡ Some c)
          ⊎ (option_or (option_map (λ r. Names r m) (first_row_named D (slot_action_writes slot))) (option_or (option_map (λ p. Reads p m) (first_partition_read tables before D (slot_action_writes slot))) (option_map (λ t. Scans t m) (first_table_scanned tables D (slot_action_writes slot)))) ≡ Some c) → Is c
      by_touched (inl g) =
          let from = from_map (λ r. Wrote r m) (first_dirty_row D (slot_rows_touched slot X)) c g in
          subst Is from.2 (got_dirty m s (λ C. has_row C from.0.table from.0.key) (touched_is_new tables before D slot X s.not_before from.0 from.1))
      by_touched (inr g) = by_named (from_either _ _ c g)

  names_what_got_dirty : (c : Cause) → cause tables W E n ≡ Some c → NamesWhatGotDirty tables W E n c
  names_what_got_dirty c = by (is_some (edit_of E (suc n)))
    where
      by : (b : Bool) → (if b then Some Edited else option_and_then (cause_since tables W E n) (affected_since tables W E n)) ≡ Some c → NamesWhatGotDirty tables W E n c
      by true e = subst (NamesWhatGotDirty tables W E n) (same_value Edited c e) tt
      by false e = option_and_then_some (cause_since tables W E n) (affected_since tables W E n) c e (λ m found there. names_since m (is_since m found) c there)

pub due_slots_have_a_cause : DueSlotsHaveCause
due_slots_have_a_cause = has_cause

pub causes_name_what_got_dirty : CausesNameWhatGotDirty
causes_name_what_got_dirty = names_what_got_dirty

module _ (tables : Tables) (W : Slots) (E : List Edit) where
  -- as many as are re-executed, of those from slot a + 1 on
  abbrev numbered : ℕ → Option (ℕ × Cause)
  numbered i = option_map (λ c. (suc i, c)) (cause tables W E i)

  count_from : (a n : ℕ) → length (filter_map numbered (range_with_len a n)) + reexecuted_count tables W E a ≡ reexecuted_count tables W E (a + n)
  count_from a zero = let same : a ≡ a + zero = omega arith in zero-add (reexecuted_count tables W E a) ∙ ap (reexecuted_count tables W E) same
  count_from a (suc n) = by (cause tables W E a) refl (count_from (a + 1) n)
    where
      rest : List (ℕ × Cause)
      rest = filter_map numbered (range_with_len (a + 1) n)

      by : (o : Option Cause) → cause tables W E a ≡ o → length rest + reexecuted_count tables W E (a + 1) ≡ reexecuted_count tables W E ((a + 1) + n) →
          length (cons_option (option_map (λ c. (suc a, c)) o) rest) + reexecuted_count tables W E a ≡ reexecuted_count tables W E (a + suc n)
      by None e later =
          let one : a + 1 ≡ suc a = omega arith in
          let all : (a + 1) + n ≡ a + suc n = omega arith in
          let same = undue_slots_are_not_reexecuted tables W E a (sym (has_cause tables W E a) ∙ ap is_some e) in
          ap (λ k. length rest + k) (sym same ∙ ap (reexecuted_count tables W E) (sym one)) ∙ later ∙ ap (reexecuted_count tables W E) all
      by (Some c) e later =
          let one : a + 1 ≡ suc a = omega arith in
          let all : (a + 1) + n ≡ a + suc n = omega arith in
          let more = due_slots_are_reexecuted tables W E a (sym (has_cause tables W E a) ∙ ap is_some e) in
          let shift : suc (length rest) + reexecuted_count tables W E a ≡ length rest + suc (reexecuted_count tables W E a) = omega arith in
          shift ∙ ap (λ k. length rest + k) (sym more ∙ ap (reexecuted_count tables W E) (sym one)) ∙ later ∙ ap (reexecuted_count tables W E) all

  as_many : (n : ℕ) → length (causes tables W E n) ≡ reexecuted_count tables W E n
  as_many n =
      let none = no_slot_is_reexecuted_at_first tables W E in
      let same : 0 + n ≡ n = zero-add n in
      let sum = count_from 0 n ∙ ap (reexecuted_count tables W E) same in
      omega (arith, sum, none)

  -- the slot since which a cause holds is due, and stands before
  since_due : (n m : ℕ) (c : Cause) → NamesWhatGotDirty tables W E n c → since c ≡ Some m → (0 < m) × (m ≤ n) × (is_due tables W E (pred m) ≡ true)
  since_due n m Edited names e = absurd (none_is_some m e)
  since_due n m (Wrote r k) names e = subst (λ i. (0 < i) × (i ≤ n) × (is_due tables W E (pred i) ≡ true)) (same_value k m e) (names.first, names.last, names.due)
  since_due n m (Names r k) names e = subst (λ i. (0 < i) × (i ≤ n) × (is_due tables W E (pred i) ≡ true)) (same_value k m e) (names.first, names.last, names.due)
  since_due n m (Reads p k) names e = subst (λ i. (0 < i) × (i ≤ n) × (is_due tables W E (pred i) ≡ true)) (same_value k m e) (names.first, names.last, names.due)
  since_due n m (Scans t k) names e = subst (λ i. (0 < i) × (i ≤ n) × (is_due tables W E (pred i) ≡ true)) (same_value k m e) (names.first, names.last, names.due)

  leads : (steps n : ℕ) → n ≤ steps → is_due tables W E n ≡ true → leads_to_edit tables W E steps (cause tables W E n) ≡ true
  leads zero n h due = by (cause tables W E n) refl
    where
      by : (o : Option Cause) → cause tables W E n ≡ o → leads_to_edit tables W E zero o ≡ true
      by None e = absurd (true≢false (sym due ∙ sym (has_cause tables W E n) ∙ ap is_some e))
      by (Some c) e = here (since c) refl
        where
          here : (o : Option ℕ) → since c ≡ o → not (is_some o) ≡ true
          here None g = refl
          here (Some m) g = let at = since_due n m c (names_what_got_dirty tables W E n c e) g in let none : ⊥ = omega (arith, h, at.0, at.1) in absurd none
  leads (suc steps) n h due = by (cause tables W E n) refl (leads steps)
    where
      by : (o : Option Cause) → cause tables W E n ≡ o → ((k : ℕ) → k ≤ steps → is_due tables W E k ≡ true → leads_to_edit tables W E steps (cause tables W E k) ≡ true) → leads_to_edit tables W E (suc steps) o ≡ true
      by None e rest = absurd (true≢false (sym due ∙ sym (has_cause tables W E n) ∙ ap is_some e))
      by (Some c) e rest = here (since c) refl
        where
          before : (m : ℕ) → 0 < m → m ≤ n → pred m ≤ steps
          before zero low high = omega (arith, h)
          before (suc m) low high = omega (arith, h, high)

          here : (o : Option ℕ) → since c ≡ o → option_map_or (λ m. leads_to_edit tables W E steps (cause tables W E (pred m))) o true ≡ true
          here None g = refl
          here (Some m) g = let at = since_due n m c (names_what_got_dirty tables W E n c e) g in rest (pred m) (before m at.0 at.1) at.2

pub causes_are_as_many : CausesAreAsMany
causes_are_as_many = as_many

pub causes_lead_to_an_edit : CausesLeadToAnEdit
causes_lead_to_an_edit tables W E n due = leads tables W E n n (omega arith) due

module _ (tables : Tables) (W X : Slots) (E : List Edit) (n : ℕ) (h : n < length W) where
  same_dirty : (m : ℕ) → m ≤ n → dirty_after tables (W ++ X) E m ≡ dirty_after tables W E m
  same_dirty m early = let same : IsSameRepair tables W (W ++ X) E m = later_slots_change_no_repair tables W X E m (omega (arith, h, early)) in same.dirty

  same_affected : (m : ℕ) → m ≤ n → is_affected_after tables (W ++ X) E n m ≡ is_affected_after tables W E n m
  same_affected m early =
      let slot = earlier_slots_stay W X n h in
      let writes = later_slots_change_nothing W X n (omega (arith, h)) in
      let D = same_dirty m early in
      λ i. is_slot_affected tables (D i) (slot i) (content_at (writes i) n)

  same_since : affected_since tables (W ++ X) E n ≡ affected_since tables W E n
  same_since = find_agree (is_affected_after tables (W ++ X) E n) (is_affected_after tables W E n) 1 n (λ i low high. same_affected i (omega (arith, high)))

  same_cause_since : (m : ℕ) → m ≤ n → cause_since tables (W ++ X) E n m ≡ cause_since tables W E n m
  same_cause_since m early =
      let slot = earlier_slots_stay W X n h in
      let writes = later_slots_change_nothing W X n (omega (arith, h)) in
      let before = same_dirty (pred m) (omega (arith, early)) in
      let D = same_dirty m early in
      λ i. cause_by tables (before i) (D i) (slot i) (content_at (writes i) n) m

  same_cause : (o : Option ℕ) → affected_since tables W E n ≡ o → option_and_then (cause_since tables (W ++ X) E n) o ≡ option_and_then (cause_since tables W E n) o
  same_cause None e = refl
  same_cause (Some m) e = same_cause_since m (is_since tables W E n m e).last

pub later_slots_change_no_cause : LaterSlotsChangeNoCause
later_slots_change_no_cause tables W X E n h =
    let others = ap (option_and_then (cause_since tables (W ++ X) E n)) (same_since tables W X E n h) ∙ same_cause tables W X E n h (affected_since tables W E n) refl in
    ap (λ o. if is_some (edit_of E (suc n)) then Some Edited else o) others
