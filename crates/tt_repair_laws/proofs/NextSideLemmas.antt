-- The next side of the tables during a repair.
use Rattle.std.proofs.Common.{◌≡◌, ℕ, suc, ◌≤◌, ℤ, Bool, true, false, nat_le, ◌||◌, List, [], ◌∷◌, ◌++◌, length, Option, if◌then◌else◌, refl, sym, ap, ◌∙◌, arith}
use Rattle.std.proofs.lemmas.Bool.Decides.{nat_tests}
use Rattle.tt_values.specs.declared.row.Row.{Row}
use Rattle.tt_values.specs.Tables.{Tables}
use Rattle.tt_values.specs.Content.{row_at}
use Rattle.tt_values.specs.RowWrites.{Slots, row_writes}
use Rattle.tt_values.proofs.LawProofs.{past_stays, last_content_stays}
use Rattle.tt_versions.specs.RowsByWrites.{rows_by}
use Rattle.tt_parts.specs.Dirty.{has_row, is_row_in}
use Rattle.tt_repair_laws.specs.declared.edit.Edit.{Edit}
use Rattle.tt_repair_laws.specs.Edits.{edited_slots}
use Rattle.tt_repair_laws.specs.Due.{content_after, is_due, dirty_after, rows_reexecuted}
use Rattle.tt_repair_laws.specs.NextSide.{current_side, edited_side, next_side, LastRowsStay, LastEditedRowsStay, DirtyRowsAreAsEdited, CleanRowsAreAsCurrent, NextSideBeginsAsCurrent, NextSideShowsEditedSlots, UndueSlotsLeaveNextSide, DueSlotsChangeReexecutedRows, LaterSlotsLeaveDirtyRows, NextSideEndsAsEditedSlots}
use Rattle.tt_repair_laws.proofs.DueLemmas.{clean_rows_agree}
use Rattle.tt_repair_laws.proofs.StepsLemmas.{undue_slots_dirty_nothing, due_adds_rows, others_stay, dirty_rows_stay}
use Rattle.tt_repair_laws.proofs.LaterSlotsLemmas.{later_slots_change_no_repair}

pub last_rows_stay : LastRowsStay
last_rows_stay W n table key time late = ap (λ X. row_at (X table) key) (last_content_stays W n time late)

-- further slots don't change a row at an earlier time
past_row_stays : (W : Slots) (n m table : ℕ) (key : ℤ) (time : ℕ) → time ≤ n → n ≤ m → rows_by table (row_writes W m) key time ≡ rows_by table (row_writes W n) key time
past_row_stays W n m table key time early later = ap (λ X. row_at (X table) key) (past_stays W n m time early later)

-- a row that a slot leaves as it is is the same at each time
same_row_over_time : (W : Slots) (n table : ℕ) (key : ℤ) → row_at (content_after W (suc n) table) key ≡ row_at (content_after W n table) key → rows_by table (row_writes W (suc n)) key ≡ rows_by table (row_writes W n) key
same_row_over_time W n table key same = λ i time. by time (nat_le time n) refl i
  where
    by : (time : ℕ) (b : Bool) → nat_le time n ≡ b → rows_by table (row_writes W (suc n)) key time ≡ rows_by table (row_writes W n) key time
    by time true e =
        let early : time ≤ n = grind (arith, nat_tests) in
        past_row_stays W n (suc n) table key time early (omega arith)
    by time false e =
        let late : suc n ≤ time = grind (arith, nat_tests) in
        last_rows_stay W (suc n) table key time late ∙ same ∙ sym (last_rows_stay W n table key time (omega (arith, late)))

pub last_edited_rows_stay : LastEditedRowsStay
last_edited_rows_stay W E n table key time late = last_rows_stay (edited_slots W E) n table key time late

pub dirty_rows_are_as_edited : DirtyRowsAreAsEdited
dirty_rows_are_as_edited tables W E n table key h = ap (λ b. if b then edited_side W E n table key else current_side W table key) h

pub clean_rows_are_as_current : CleanRowsAreAsCurrent
clean_rows_are_as_current tables W E n table key h = ap (λ b. if b then edited_side W E n table key else current_side W table key) h

pub next_side_begins_as_current : NextSideBeginsAsCurrent
unfolding dirty_after
next_side_begins_as_current tables W E table = refl

pub next_side_shows_edited_slots : NextSideShowsEditedSlots
next_side_shows_edited_slots tables W E n time table key within early = by (has_row (dirty_after tables W E n) table key) refl
  where
    by : (b : Bool) → has_row (dirty_after tables W E n) table key ≡ b
        → (if b then edited_side W E n table key else current_side W table key) time ≡ edited_side W E n table key time
    by true e = refl
    by false e = past_row_stays W n (length W) table key time early within ∙ sym (clean_rows_agree tables W E n time table key early e)

module _ (tables : Tables) (W : Slots) (E : List Edit) (n table : ℕ) (key : ℤ) where
  -- a row on the next side, by whether it is dirty and by the edited slots
  abbrev side_if : Bool → (ℕ → Option Row) → ℕ → Option Row
  side_if dirty rows = if dirty then rows else current_side W table key

  next_side-undue : is_due tables W E n ≡ false → next_side tables W E (suc n) table key ≡ next_side tables W E n table key
  next_side-undue h =
      let rows = edited_side W E (suc n) table key in
      ap (λ D. side_if (has_row D table key) rows) (undue_slots_dirty_nothing tables W E n h) ∙ by (has_row (dirty_after tables W E n) table key) refl
    where
      by : (b : Bool) → has_row (dirty_after tables W E n) table key ≡ b → side_if b (edited_side W E (suc n) table key) ≡ side_if b (edited_side W E n table key)
      by true e = same_row_over_time (edited_slots W E) n table key (dirty_rows_stay tables W E n h table key e).0
      by false e = refl

  next_side-due_other : is_due tables W E n ≡ true → is_row_in (rows_reexecuted W E n) table key ≡ false → next_side tables W E (suc n) table key ≡ next_side tables W E n table key
  next_side-due_other h none =
      let rows = edited_side W E (suc n) table key in
      let dirty = due_adds_rows tables W E n h table key ∙ ap (λ b. b || has_row (dirty_after tables W E n) table key) none in
      ap (λ b. side_if b rows) dirty ∙ by (has_row (dirty_after tables W E n) table key)
    where
      by : (b : Bool) → side_if b (edited_side W E (suc n) table key) ≡ side_if b (edited_side W E n table key)
      by true = same_row_over_time (edited_slots W E) n table key (others_stay tables W E n table key none).0
      by false = refl

  next_side-due_reexecuted : is_due tables W E n ≡ true → n ≤ length W → is_row_in (rows_reexecuted W E n) table key ≡ true → (time : ℕ) → (b : Bool) → nat_le (suc n) time ≡ b
      → next_side tables W E (suc n) table key time ≡ (if b then row_at (content_after (edited_slots W E) (suc n) table) key else next_side tables W E n table key time)
  next_side-due_reexecuted h within among time b e = ap (λ d. side_if d rows time) dirty ∙ by b e
    where
      rows : ℕ → Option Row
      rows = edited_side W E (suc n) table key

      dirty : has_row (dirty_after tables W E (suc n)) table key ≡ true
      dirty = due_adds_rows tables W E n h table key ∙ ap (λ d. d || has_row (dirty_after tables W E n) table key) among

      by : (b : Bool) → nat_le (suc n) time ≡ b → rows time ≡ (if b then row_at (content_after (edited_slots W E) (suc n) table) key else next_side tables W E n table key time)
      by true e =
          let late : suc n ≤ time = grind (arith, nat_tests) in
          last_rows_stay (edited_slots W E) (suc n) table key time late
      by false e =
          let early : time ≤ n = grind (arith, nat_tests) in
          past_row_stays (edited_slots W E) n (suc n) table key time early (omega arith) ∙ sym (next_side_shows_edited_slots tables W E n time table key within early)

pub undue_slots_leave_next_side : UndueSlotsLeaveNextSide
undue_slots_leave_next_side tables W E n table h = λ i key. next_side-undue tables W E n table key h i

pub due_slots_change_reexecuted_rows : DueSlotsChangeReexecutedRows
due_slots_change_reexecuted_rows tables W E n table key time within h = by (is_row_in (rows_reexecuted W E n) table key) refl
  where
    before : Option Row
    before = next_side tables W E n table key time

    by : (b : Bool) → is_row_in (rows_reexecuted W E n) table key ≡ b
        → next_side tables W E (suc n) table key time ≡ (if b then (if nat_le (suc n) time then row_at (content_after (edited_slots W E) (suc n) table) key else before) else before)
    by true e = next_side-due_reexecuted tables W E n table key h within e time (nat_le (suc n) time) refl
    by false e = ap (λ rows. rows time) (next_side-due_other tables W E n table key h e)

pub later_slots_leave_dirty_rows : LaterSlotsLeaveDirtyRows
later_slots_leave_dirty_rows tables W s E n table key within =
    let V = W ++ s ∷ [] in
    let same = later_slots_change_no_repair tables W (s ∷ []) E n within in
    (λ i. if has_row (same.dirty i) table key then rows_by table (same.writes i) key else current_side V table key)
    ∙ by (has_row (dirty_after tables W E n) table key) (current_side V table key)
  where
    by : (b : Bool) (clean : ℕ → Option Row) → (if b then edited_side W E n table key else clean) ≡ (if b then side_if tables W E n table key b (edited_side W E n table key) else clean)
    by true clean = refl
    by false clean = refl

pub next_side_ends_as_edited_slots : NextSideEndsAsEditedSlots
next_side_ends_as_edited_slots tables W E table = λ i key time. by key time (nat_le time (length W)) refl i
  where
    n : ℕ
    n = length W

    late : (key : ℤ) (time : ℕ) (b : Bool) → n ≤ time → has_row (dirty_after tables W E n) table key ≡ b
        → (if b then edited_side W E n table key else rows_by table (row_writes W n) key) time ≡ edited_side W E n table key time
    late key time true after e = refl
    late key time false after e =
        last_rows_stay W n table key time after
        ∙ sym (clean_rows_agree tables W E n n table key (omega arith) e)
        ∙ sym (last_rows_stay (edited_slots W E) n table key time after)

    by : (key : ℤ) (time : ℕ) (b : Bool) → nat_le time n ≡ b → next_side tables W E n table key time ≡ edited_side W E n table key time
    by key time true e =
        let early : time ≤ n = grind (arith, nat_tests) in
        next_side_shows_edited_slots tables W E n time table key (omega arith) early
    by key time false e =
        let after : n ≤ time = grind (arith, nat_tests) in
        late key time (has_row (dirty_after tables W E n) table key) after refl
