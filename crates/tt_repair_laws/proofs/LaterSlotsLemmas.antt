-- Slots that are added during a repair.
use Rattle.std.proofs.Common.{◌≡◌, ℕ, zero, suc, ◌<◌, ◌≤◌, ◌||◌, List, ◌++◌, length, fold, is_some, if◌then◌else◌, refl, ap, ◌∙◌, arith}
use Rattle.tt_values.specs.Tables.{Tables}
use Rattle.tt_values.specs.Content.{content_at}
use Rattle.tt_values.specs.RowWrites.{Slots, slot_after, row_writes}
use Rattle.tt_values.proofs.LawProofs.{earlier_slots_stay, later_slots_change_nothing}
use Rattle.tt_parts.specs.Dirty.{DirtySet}
use Rattle.tt_repair_laws.specs.declared.edit.Edit.{Edit}
use Rattle.tt_repair_laws.specs.Edits.{edit_of, edited_slots, edited_slots_from}
use Rattle.tt_repair_laws.specs.Due.{is_slot_affected, slot_rows_touched, slot_rows_matched, with_row_of, is_due_by, is_due, dirty_after, reexecuted_count}
use Rattle.tt_repair_laws.specs.Laws.{IsSameRepair, LaterSlotsChangeNoRepair}
use Rattle.tt_repair_laws.proofs.EditsLemmas.{length-edited_slots_from, edited_slots-append}

module _ (tables : Tables) (W X : Slots) (E : List Edit) where
  -- the longer list has the same edited slots at its beginning
  same_slot : (i : ℕ) → i < length W → slot_after (edited_slots (W ++ X) E) i ≡ slot_after (edited_slots W E) i
  same_slot i h = ap (λ V. slot_after V i) (edited_slots-append W X E) ∙ earlier_slots_stay (edited_slots W E) (edited_slots_from (suc (length W)) X E) i (omega (arith, length-edited_slots_from 1 W E))

  same_writes : (n : ℕ) → n ≤ length W → row_writes (edited_slots (W ++ X) E) n ≡ row_writes (edited_slots W E) n
  same_writes n h = ap (λ V. row_writes V n) (edited_slots-append W X E) ∙ later_slots_change_nothing (edited_slots W E) (edited_slots_from (suc (length W)) X E) n (omega (arith, length-edited_slots_from 1 W E))

  same_due_by : (n : ℕ) → n < length W → (C D : DirtySet) → C ≡ D → is_due_by tables (W ++ X) E n C ≡ is_due_by tables W E n D
  same_due_by n h C D e =
      let slot = earlier_slots_stay W X n h in
      let writes = later_slots_change_nothing W X n (omega (arith, h)) in
      λ i. is_some (edit_of E (suc n)) || is_slot_affected tables (e i) (slot i) (content_at (writes i) n)

  same_dirty : (n : ℕ) → n ≤ length W → dirty_after tables (W ++ X) E n ≡ dirty_after tables W E n
  unfolding dirty_after
  same_dirty zero h = refl
  same_dirty (suc n) h =
      let D = same_dirty n (omega (arith, h)) in
      let due = same_due_by n h _ _ D in
      let slot = earlier_slots_stay W X n h in
      let writes = later_slots_change_nothing W X n (omega (arith, h)) in
      let edits = same_slot n h in
      let now = same_writes n (omega (arith, h)) in
      let next = same_writes (suc n) h in
      λ i. if due i
      then fold (with_row_of tables (content_at (now i) n) (content_at (next i) (suc n))) (D i) (slot_rows_touched (slot i) (content_at (writes i) n) ++ slot_rows_matched (edits i) (content_at (now i) n))
      else D i

  same_due : (n : ℕ) → n < length W → is_due tables (W ++ X) E n ≡ is_due tables W E n
  same_due n h = same_due_by n h _ _ (same_dirty n (omega (arith, h)))

  same_reexecuted : (n : ℕ) → n ≤ length W → reexecuted_count tables (W ++ X) E n ≡ reexecuted_count tables W E n
  unfolding reexecuted_count
  same_reexecuted zero h = refl
  same_reexecuted (suc n) h =
      let due = same_due n h in
      let before = same_reexecuted n (omega (arith, h)) in
      λ i. if due i then suc (before i) else before i

pub later_slots_change_no_repair : LaterSlotsChangeNoRepair
later_slots_change_no_repair tables W X E n h =
    let same : IsSameRepair tables W (W ++ X) E n = record {
      dirty = same_dirty tables W X E n h;
      due = λ i early. same_due tables W X E i (omega (arith, h, early));
      reexecuted = same_reexecuted tables W X E n h;
      slots = λ i early. same_slot tables W X E i (omega (arith, h, early));
      writes = same_writes tables W X E n h;
    } in same
