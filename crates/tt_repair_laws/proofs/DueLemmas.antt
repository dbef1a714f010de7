-- The dirty set of a repair tracks where the edited slots differ.
use Rattle.std.proofs.Common.{◌≡◌, ℕ, zero, suc, ◌+◌, ◌-◌, ℤ, Bool, true, false, List, fold, Option, None, Some, is_some, if◌then◌else◌, refl, sym, ap, ◌∙◌, arith, zero-add, true≢false}
use Rattle.std.proofs.lemmas.Bool.{or_parts}
use Rattle.tt_values.specs.Tables.{Tables}
use Rattle.tt_values.specs.Content.{row_at, with_row_write}
use Rattle.tt_values.specs.ActionLaws.{IsByRisingKey}
use Rattle.tt_values.specs.RowWrites.{Slots, slot_after, slot_writes, slot_replies, row_writes}
use Rattle.tt_values.proofs.LawProofs.{rows_rise, next_content, past_stays}
use Rattle.tt_parts.specs.Dirty.{DirtySet, has_row}
use Rattle.tt_repair_laws.specs.declared.edit.Edit.{Edit}
use Rattle.tt_repair_laws.specs.Edits.{edit_of, edited_slots}
use Rattle.tt_repair_laws.specs.Due.{content_after, slot_rows_written, slot_rows_touched, is_slot_affected, is_due_by, rows_reexecuted, with_row_of, dirty_after_slot, dirty_after}
use Rattle.tt_repair_laws.specs.Laws.{IsSameSlot, NoAffectedSlotIsMissed, CleanRowsAgree, DirtyRowsLieInDirtyPartitions}
use Rattle.tt_repair_laws.proofs.DirtyLemmas.{clean_before}
use Rattle.tt_repair_laws.proofs.TrackingLemmas.{Tracks, Tracks-reexecuted}
use Rattle.tt_repair_laws.proofs.UnaffectedLemmas.{slot_writes-unaffected, slot_replies-unaffected, slot_rows_written-unaffected, slot_rows_touched-unaffected, Tracks-unaffected}
use Rattle.tt_repair_laws.proofs.EditsLemmas.{unedited_slots_stay}

pub content_rises : (W : Slots) (n : ℕ) → IsByRisingKey (content_after W n)
content_rises W n table = rows_rise (row_writes W n) n table

pub no_edit : {X : Type 0} (o : Option X) → is_some o ≡ false → o ≡ None
no_edit None h = refl
no_edit (Some x) h = absurd (true≢false h)

module _ (tables : Tables) (W : Slots) (E : List Edit) where
  Tracks-dirty_after_slot : (n : ℕ) (D : DirtySet) → Tracks tables D (content_after W n) (content_after (edited_slots W E) n) → Tracks tables (dirty_after_slot tables W E n D) (content_after W (suc n)) (content_after (edited_slots W E) (suc n))
  Tracks-dirty_after_slot n D t = by (is_due_by tables W E n D) refl
    where
      V : Slots
      V = edited_slots W E

      by : (b : Bool) → is_due_by tables W E n D ≡ b → Tracks tables (if b then fold (with_row_of tables (content_after V n) (content_after V (suc n))) D (rows_reexecuted W E n) else D) (content_after W (suc n)) (content_after V (suc n))
      by true e = Tracks-reexecuted tables D (content_after W n) (content_after V n) t (suc n) (slot_after W n) (slot_after V n) (content_after W (suc n)) (content_after V (suc n)) (next_content W n) (next_content V n)
      by false e =
          let both = or_parts (is_some (edit_of E (suc n))) (is_slot_affected tables D (slot_after W n) (content_after W n)) e in
          let unedited = unedited_slots_stay W E n (no_edit (edit_of E (suc n)) both.0) in
          Tracks-unaffected tables D (content_after W n) (content_after V n) t (content_rises W n) (content_rises V n) (suc n) (slot_after W n) (content_after W (suc n)) (content_after V (suc n)) both.1 (next_content W n)
          (next_content V n ∙ ap (λ s. fold with_row_write (content_after V n) (slot_writes (suc n) s (content_after V n))) unedited)

  pub Tracks-dirty_after : (n : ℕ) → Tracks tables (dirty_after tables W E n) (content_after W n) (content_after (edited_slots W E) n)
  unfolding dirty_after row_writes
  Tracks-dirty_after zero = record { agree = λ table key h. refl; parts = λ table key row h there. absurd (true≢false (sym h)) }
  Tracks-dirty_after (suc n) = Tracks-dirty_after_slot n (dirty_after tables W E n) (Tracks-dirty_after n)

  -- a row that is clean after a slot was clean before it
  clean_before_slot : (n : ℕ) (D : DirtySet) (table : ℕ) (key : ℤ) → has_row (dirty_after_slot tables W E n D) table key ≡ false → has_row D table key ≡ false
  clean_before_slot n D table key = by (is_due_by tables W E n D)
    where
      by : (b : Bool) → has_row (if b then fold (with_row_of tables (content_after (edited_slots W E) n) (content_after (edited_slots W E) (suc n))) D (rows_reexecuted W E n) else D) table key ≡ false → has_row D table key ≡ false
      by true h = (clean_before tables (content_after (edited_slots W E) n) (content_after (edited_slots W E) (suc n)) (rows_reexecuted W E n) D table key h).1
      by false h = h

  clean_earlier : (more n : ℕ) (table : ℕ) (key : ℤ) → has_row (dirty_after tables W E (more + n)) table key ≡ false → has_row (dirty_after tables W E n) table key ≡ false
  unfolding dirty_after
  clean_earlier zero n table key h = ap (λ m. has_row (dirty_after tables W E m) table key) (sym (zero-add n)) ∙ h
  clean_earlier (suc more) n table key h =
      let next : suc (more + n) ≡ suc more + n = omega arith in
      clean_earlier more n table key (clean_before_slot (more + n) (dirty_after tables W E (more + n)) table key (ap (λ m. has_row (dirty_after tables W E m) table key) next ∙ h))

pub no_affected_slot_is_missed : NoAffectedSlotIsMissed
no_affected_slot_is_missed tables W E n h =
    let V = edited_slots W E in
    let D = dirty_after tables W E n in
    let X = content_after W n in
    let Y = content_after V n in
    let t = Tracks-dirty_after tables W E n in
    let unedited = unedited_slots_stay W E n (no_edit _ (or_parts _ _ h).0) in
    let same : IsSameSlot W V n = record {
      slot = unedited;
      writes = ap (λ s. slot_writes (suc n) s Y) unedited ∙ slot_writes-unaffected tables D X Y t (content_rises W n) (content_rises V n) (suc n) (slot_after W n) (or_parts _ _ h).1;
      replies = ap (λ s. slot_replies s Y) unedited ∙ slot_replies-unaffected tables D X Y t (content_rises W n) (content_rises V n) (slot_after W n) (or_parts _ _ h).1;
      rows = ap (λ s. slot_rows_written s Y) unedited ∙ slot_rows_written-unaffected tables D X Y t (content_rises W n) (content_rises V n) (slot_after W n) (or_parts _ _ h).1;
      touched = ap (λ s. slot_rows_touched s Y) unedited ∙ slot_rows_touched-unaffected tables D X Y t (content_rises W n) (content_rises V n) (slot_after W n) (or_parts _ _ h).1;
    } in same

pub clean_rows_agree : CleanRowsAgree
clean_rows_agree tables W E n time table key early h =
    let V = edited_slots W E in
    let sum : (n - time) + time ≡ n = omega (arith, early) in
    let clean = clean_earlier tables W E (n - time) time table key (ap (λ m. has_row (dirty_after tables W E m) table key) sum ∙ h) in
    let t = Tracks-dirty_after tables W E time in
    ap (λ Z. row_at (Z table) key) (past_stays V time n time (omega arith) early)
    ∙ sym (t.agree table key clean)
    ∙ ap (λ Z. row_at (Z table) key) (sym (past_stays W time n time (omega arith) early))

pub dirty_rows_lie_in_dirty_partitions : DirtyRowsLieInDirtyPartitions
dirty_rows_lie_in_dirty_partitions tables W E n table key row dirty there = let t = Tracks-dirty_after tables W E n in t.parts table key row dirty there
