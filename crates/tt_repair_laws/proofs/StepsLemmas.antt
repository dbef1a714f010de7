-- The rows that get dirty with one slot of a repair, and the rows that it doesn't change.
use Rattle.std.proofs.Common.{◌≡◌, ℕ, suc, ℤ, Bool, true, false, ◌||◌, List, length, fold, is_some, if◌then◌else◌, refl, ap, ◌∙◌, arith}
use Rattle.std.specs.List.{list_any}
use Rattle.std.proofs.lemmas.Bool.{or_parts}
use Rattle.tt_values.specs.Tables.{Tables}
use Rattle.tt_values.specs.Content.{row_at, with_row_write}
use Rattle.tt_values.specs.RowWrites.{Slots, slot_after, slot_writes}
use Rattle.tt_values.proofs.LawProofs.{past_stays, next_content}
use Rattle.tt_parts.specs.Dirty.{DirtySet, has_row}
use Rattle.tt_repair_laws.specs.declared.edit.Edit.{Edit}
use Rattle.tt_repair_laws.specs.Edits.{edit_of, edited_slots}
use Rattle.tt_repair_laws.specs.Due.{content_after, is_slot_affected, slot_rows_touched, slot_rows_matched, is_due, rows_reexecuted, with_row_of, dirty_after, reexecuted_count}
use Rattle.tt_repair_laws.specs.Steps.{NothingIsDirtyAtFirst, UndueSlotsDirtyNothing, DueSlotsDirtyReexecutedRows, NoSlotIsReexecutedAtFirst, DueSlotsAreReexecuted, UndueSlotsAreNotReexecuted, UnwrittenRowsStay, UntouchedRowsStay, ContentAfterIsKept}
use Rattle.tt_repair_laws.proofs.RowListsLemmas.{list_none-append}
use Rattle.tt_repair_laws.proofs.DirtyLemmas.{is_row, clean_rows_differ, has_row-with_rows}
use Rattle.tt_repair_laws.proofs.EffectsLemmas.{row_at-unwritten, row_at-untouched, slot_unmatched_untouched}
use Rattle.tt_repair_laws.proofs.UnaffectedLemmas.{slot_rows_touched-unaffected, unaffected_touches_clean_rows}
use Rattle.tt_repair_laws.proofs.EditsLemmas.{unedited_slots_stay}
use Rattle.tt_repair_laws.proofs.DueLemmas.{content_rises, no_edit, Tracks-dirty_after}

pub nothing_is_dirty_at_first : NothingIsDirtyAtFirst
unfolding dirty_after
nothing_is_dirty_at_first tables W E = refl

-- the dirty set after a slot, by whether it is due
abbrev dirty_if : Tables → Slots → List Edit → ℕ → Bool → DirtySet
dirty_if tables W E n due =
    let D = dirty_after tables W E n in
    if due then fold (with_row_of tables (content_after (edited_slots W E) n) (content_after (edited_slots W E) (suc n))) D (rows_reexecuted W E n) else D

pub undue_slots_dirty_nothing : UndueSlotsDirtyNothing
unfolding dirty_after
undue_slots_dirty_nothing tables W E n h = ap (dirty_if tables W E n) h

pub due_slots_dirty_reexecuted_rows : DueSlotsDirtyReexecutedRows
unfolding dirty_after
due_slots_dirty_reexecuted_rows tables W E n h = ap (dirty_if tables W E n) h

pub no_slot_is_reexecuted_at_first : NoSlotIsReexecutedAtFirst
unfolding reexecuted_count
no_slot_is_reexecuted_at_first tables W E = refl

pub due_slots_are_reexecuted : DueSlotsAreReexecuted
unfolding reexecuted_count
due_slots_are_reexecuted tables W E n h = let count = reexecuted_count tables W E n in ap (λ b. if b then suc count else count) h

pub undue_slots_are_not_reexecuted : UndueSlotsAreNotReexecuted
unfolding reexecuted_count
undue_slots_are_not_reexecuted tables W E n h = let count = reexecuted_count tables W E n in ap (λ b. if b then suc count else count) h

pub unwritten_rows_stay : UnwrittenRowsStay
unwritten_rows_stay W n table key h =
    ap (λ Z. row_at (Z table) key) (next_content W n) ∙ row_at-unwritten (suc n) (slot_after W n) (content_after W n) table key h

pub untouched_rows_stay : UntouchedRowsStay
untouched_rows_stay W n table key h =
    ap (λ Z. row_at (Z table) key) (next_content W n) ∙ row_at-untouched (suc n) (slot_after W n) (content_after W n) table key h

pub content_after_is_kept : ContentAfterIsKept
content_after_is_kept W n h = past_stays W n (length W) n (omega arith) h

module _ (tables : Tables) (W : Slots) (E : List Edit) (n : ℕ) where
  -- with a slot that is due the re-executed rows get dirty, and no other row
  pub due_adds_rows : is_due tables W E n ≡ true → (table : ℕ) (key : ℤ) → has_row (dirty_after tables W E (suc n)) table key ≡ (list_any (is_row table key) (rows_reexecuted W E n) || has_row (dirty_after tables W E n) table key)
  due_adds_rows h table key =
      let D = dirty_after tables W E n in
      ap (λ C. has_row C table key) (due_slots_dirty_reexecuted_rows tables W E n h)
      ∙ has_row-with_rows tables (content_after (edited_slots W E) n) (content_after (edited_slots W E) (suc n)) (rows_reexecuted W E n) D table key

  -- the rows that aren't re-executed stay the same, by the edited slots and by the old ones
  pub others_stay : (table : ℕ) (key : ℤ) → list_any (is_row table key) (rows_reexecuted W E n) ≡ false →
      (row_at (content_after (edited_slots W E) (suc n) table) key ≡ row_at (content_after (edited_slots W E) n table) key) × (row_at (content_after W (suc n) table) key ≡ row_at (content_after W n table) key)
  others_stay table key h =
      let V = edited_slots W E in
      let none = list_none-append (is_row table key) (slot_rows_touched (slot_after W n) (content_after W n)) (slot_rows_matched (slot_after V n) (content_after V n)) h in (
        ap (λ Z. row_at (Z table) key) (next_content V n)
            ∙ row_at-untouched (suc n) (slot_after V n) (content_after V n) table key (slot_unmatched_untouched (slot_after V n) (content_after V n) table key none.1),
        untouched_rows_stay W n table key none.0,
      )

  -- a slot that isn't due leaves each dirty row as it is, by the edited slots and by the old ones
  pub dirty_rows_stay : is_due tables W E n ≡ false → (table : ℕ) (key : ℤ) → has_row (dirty_after tables W E n) table key ≡ true →
      (row_at (content_after (edited_slots W E) (suc n) table) key ≡ row_at (content_after (edited_slots W E) n table) key) × (row_at (content_after W (suc n) table) key ≡ row_at (content_after W n table) key)
  dirty_rows_stay h table key dirty =
      let V = edited_slots W E in
      let D = dirty_after tables W E n in
      let X = content_after W n in
      let Y = content_after V n in
      let s = slot_after W n in
      let both = or_parts (is_some (edit_of E (suc n))) (is_slot_affected tables D s X) h in
      let unedited = unedited_slots_stay W E n (no_edit (edit_of E (suc n)) both.0) in
      let old = clean_rows_differ D (slot_rows_touched s X) table key dirty (unaffected_touches_clean_rows tables D X Y (Tracks-dirty_after tables W E n) (content_rises W n) (content_rises V n) s both.1) in
      let new = ap (list_any (is_row table key)) (slot_rows_touched-unaffected tables D X Y (Tracks-dirty_after tables W E n) (content_rises W n) (content_rises V n) s both.1) ∙ old in (
        ap (λ Z. row_at (Z table) key) (next_content V n) ∙ ap (λ v. row_at (fold with_row_write Y (slot_writes (suc n) v Y) table) key) unedited ∙ row_at-untouched (suc n) s Y table key new,
        untouched_rows_stay W n table key old,
      )
