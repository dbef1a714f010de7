-- Slots before the first edit: none is due, and nothing changes.
use Rattle.std.proofs.Common.{◌≡◌, ℕ, zero, suc, ◌<◌, ◌≤◌, Bool, false, not, ◌||◌, List, [], ◌∷◌, Option, None, Some, is_some, refl, sym, ap, ◌∙◌, arith}
use Rattle.std.specs.List.{list_any}
use Rattle.std.proofs.lemmas.Bool.{or_from, and_right}
use Rattle.tt_values.specs.declared.value.Value.{Value}
use Rattle.tt_values.specs.declared.value.Value.TheVariants as values
use Rattle.tt_values.specs.declared.statement.Equal.{Equal}
use Rattle.tt_values.specs.declared.statement.Write.{Write}
use Rattle.tt_values.specs.declared.action.Action.{Action}
use Rattle.tt_values.specs.declared.statement.Write.TheVariants.{Insert, Update, Delete}
use Rattle.tt_values.specs.declared.row_id.RowId.{RowId}
use Rattle.tt_values.specs.Tables.{Tables}
use Rattle.tt_values.specs.Action.{rows_touched}
use Rattle.tt_values.specs.Content.{Content}
use Rattle.tt_values.specs.Effect.{table_of}
use Rattle.tt_values.specs.RowWrites.{Slots, slot_after}
use Rattle.tt_parts.specs.declared.partition.Partition.{Partition}
use Rattle.tt_parts.specs.Partitions.{partitions_read}
use Rattle.tt_parts.specs.Dirty.{nothing_dirty, columns_in, has_row, is_clear}
use Rattle.tt_repair_laws.specs.declared.edit.Edit.{Edit}
use Rattle.tt_repair_laws.specs.Edits.{edit_of, edited_slots}
use Rattle.tt_repair_laws.specs.Due.{content_after, is_dirty_key, has_dirty_key, names_dirty_row, is_write_clear, is_slot_affected, is_due_by, is_due, dirty_after, reexecuted_count}
use Rattle.tt_repair_laws.proofs.LawProofs.{nothing_is_dirty_at_first, undue_slots_dirty_nothing, no_slot_is_reexecuted_at_first, undue_slots_are_not_reexecuted, unedited_slots_stay}
use Rattle.tt_horizon.proofs.SlotsLemmas.{content_after_slot, next_by_slot, first_content}

-- a test that nothing passes finds nothing
list_any-none : {X : Type 0} (p : X → Bool) → ((x : X) → p x ≡ false) → (xs : List X) → list_any p xs ≡ false
list_any-none p none [] = refl
list_any-none p none (x ∷ xs) = or_from (p x) (list_any p xs) (none x) (list_any-none p none xs)

-- where nothing is dirty, no value is a dirty key
no_dirty_key : (table : ℕ) (v : Value) → is_dirty_key nothing_dirty table v ≡ false
no_dirty_key table (values.Int key) = refl
no_dirty_key table (values.Text t) = refl

-- where nothing is dirty, no equality has a dirty key
no_dirty_equal : (table : ℕ) (q : Equal) → has_dirty_key nothing_dirty table q ≡ false
no_dirty_equal table q = and_right _ (is_dirty_key nothing_dirty table q.value) (no_dirty_key table q.value)

-- where nothing is dirty, no write names a dirty row
no_dirty_name : (w : Write) → names_dirty_row nothing_dirty w ≡ false
no_dirty_name (Insert table row) = refl
no_dirty_name (Update table changes equals) = list_any-none (has_dirty_key nothing_dirty table) (no_dirty_equal table) equals
no_dirty_name (Delete table equals) = list_any-none (has_dirty_key nothing_dirty table) (no_dirty_equal table) equals

-- where nothing is dirty, each write is clear
clear_of_nothing : (table : ℕ) (ps : List Partition) → not (is_clear nothing_dirty table ps) ≡ false
clear_of_nothing table [] = refl
clear_of_nothing table (p ∷ ps) = refl

-- where nothing is dirty, no slot is affected
unaffected : (tables : Tables) (s : Option Action) (X : Content) → is_slot_affected tables nothing_dirty s X ≡ false
unaffected tables None X = refl
unaffected tables (Some action) X =
    let rows = list_any-none (λ (r : RowId). has_row nothing_dirty r.table r.key) (λ r. refl) (rows_touched action X) in
    let named = list_any-none (names_dirty_row nothing_dirty) no_dirty_name action.writes in
    let read = λ (w : Write). partitions_read (columns_in tables (table_of w)) w in
    let unclear = list_any-none (λ w. not (is_write_clear tables nothing_dirty w)) (λ w. clear_of_nothing (table_of w) (read w)) action.writes in
    λ i. rows i || (named i || unclear i)

module _ (tables : Tables) (W : Slots) (E : List Edit) (t : ℕ) (unedited : (i : ℕ) → i < t → edit_of E (suc i) ≡ None) where
  -- a slot without an edit isn't due where nothing is dirty
  undue_if_clean : (n : ℕ) → n < t → dirty_after tables W E n ≡ nothing_dirty → is_due tables W E n ≡ false
  undue_if_clean n h clean =
      let s = slot_after W n in
      let now = content_after W n in
      ap (is_due_by tables W E n) clean
      ∙ or_from (is_some (edit_of E (suc n))) (is_slot_affected tables nothing_dirty s now) (ap is_some (unedited n h)) (unaffected tables s now)

  -- nothing is dirty before the first edit
  pub nothing_dirty_yet : (n : ℕ) → n ≤ t → dirty_after tables W E n ≡ nothing_dirty
  nothing_dirty_yet zero h = nothing_is_dirty_at_first tables W E
  nothing_dirty_yet (suc n) h =
      let clean = nothing_dirty_yet n (omega (arith, h)) in
      undue_slots_dirty_nothing tables W E n (undue_if_clean n h clean) ∙ clean

  -- no slot is due before the first edit
  pub no_slot_due_yet : (n : ℕ) → n < t → is_due tables W E n ≡ false
  no_slot_due_yet n h = undue_if_clean n h (nothing_dirty_yet n (omega (arith, h)))

  -- no slot is re-executed before the first edit
  pub none_reexecuted_yet : (n : ℕ) → n ≤ t → reexecuted_count tables W E n ≡ 0
  none_reexecuted_yet zero h = no_slot_is_reexecuted_at_first tables W E
  none_reexecuted_yet (suc n) h = undue_slots_are_not_reexecuted tables W E n (no_slot_due_yet n h) ∙ none_reexecuted_yet n (omega (arith, h))

  -- the edited slots have the same contents before the first edit
  pub same_content_yet : (n : ℕ) → n ≤ t → content_after (edited_slots W E) n ≡ content_after W n
  same_content_yet zero h = first_content (edited_slots W E) ∙ sym (first_content W)
  same_content_yet (suc n) h =
      let slot = unedited_slots_stay W E n (unedited n h) in
      let before = same_content_yet n (omega (arith, h)) in
      next_by_slot (edited_slots W E) n ∙ (λ i. content_after_slot (slot i) (before i)) ∙ sym (next_by_slot W n)
