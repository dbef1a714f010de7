-- What both sides of the tables show, before and after each event.
use Rattle.std.proofs.Common.{◌≡◌, ℕ, zero, suc, ◌<◌, ◌≤◌, Bool, true, false, ◌&&◌, ◌||◌, nat_le, ℤ, List, [], ◌∷◌, ◌++◌, length, Option, if◌then◌else◌, refl, sym, ap, ◌∙◌, arith}
use Rattle.tt_values.specs.declared.row.Row.{Row}
use Rattle.tt_values.specs.declared.action.Action.{Action}
use Rattle.tt_values.specs.Tables.{Tables}
use Rattle.tt_values.specs.Content.{Content, row_at}
use Rattle.tt_values.specs.RowWrites.{Slots, slot_after, row_writes}
use Rattle.tt_values.proofs.LawProofs.{rows_rise, past_stays}
use Rattle.tt_versions.specs.declared.side.Side.TheVariants.{Current, Next}
use Rattle.tt_versions.specs.Sides.{no_lineages, next_of, is_split}
use Rattle.tt_versions.specs.RowsByWrites.{rows_by}
use Rattle.tt_versions.proofs.LawProofs.{whole_rows_show_the_same, empty_table_shows_no_rows, empty_table_splits_nothing}
use Rattle.tt_parts.specs.Dirty.{has_row, is_row_in}
use Rattle.tt_repair_laws.specs.declared.edit.Edit.{Edit}
use Rattle.tt_repair_laws.specs.Edits.{edited_slots}
use Rattle.tt_repair_laws.specs.Due.{content_after, is_due, dirty_after, rows_reexecuted, slot_rows_touched}
use Rattle.tt_repair_laws.specs.NextSide.{current_side, next_side}
use Rattle.tt_repair_laws.proofs.LawProofs.{next_side_begins_as_current, next_side_shows_edited_slots, undue_slots_leave_next_side, due_slots_change_reexecuted_rows, later_slots_leave_dirty_rows, next_side_ends_as_edited_slots, later_slots_change_no_repair, undue_slots_dirty_nothing, due_slots_dirty_reexecuted_rows, dirty_rows_grow, nothing_is_dirty_at_first, edited_slots_are_as_many, dirty_rows_are_as_edited, clean_rows_are_as_current, last_edited_rows_stay, untouched_rows_stay, clean_rows_agree}
use Rattle.tt_generations.specs.Rows.{TablesByPosition, versions_at, CurrentAgrees, KeepsSplitRows, ShowsSide}
use Rattle.tt_generations.specs.Reexecution.{AreReexecuted, ShowsContentBefore}
use Rattle.tt_generations.specs.TwoGenerations.{Phase, Idle, Repairing, IsWithin, next_side_of, dirty_rows_of}
use Rattle.tt_generations.specs.Generations.{HaveBothSides}
use Rattle.tt_generations.proofs.RowsLemmas.{CurrentAgrees-empty}

-- a slot that is added: the current side gets it, and so does the next one but for the split rows
pub HaveBothSides-slot : (before after : TablesByPosition) (tables : Tables) (phase : Phase) (W : Slots) (s : Option Action) → IsWithin phase W → HaveBothSides before tables phase W
    → CurrentAgrees after (row_writes (W ++ s ∷ []) (length (W ++ s ∷ []))) → KeepsSplitRows before after → HaveBothSides after tables phase (W ++ s ∷ [])
HaveBothSides-slot before after tables phase W s within have now keeps = record {
  current = now;
  next = λ table. λ i key. each phase within have table key (is_split (versions_at before table) key) refl i;
  split = λ table. keeps.split table ∙ have.split table ∙ dirty phase within table;
}
  where
    V : Slots
    V = W ++ s ∷ []

    dirty : (p : Phase) → IsWithin p W → (table : ℕ) → dirty_rows_of tables p W table ≡ dirty_rows_of tables p V table
    dirty Idle w table = refl
    dirty (Repairing E n) w table = λ i key. has_row (sym (later_slots_change_no_repair tables W (s ∷ []) E n w).dirty i) table key

    each : (p : Phase) → IsWithin p W → HaveBothSides before tables p W → (table : ℕ) (key : ℤ) (b : Bool) → is_split (versions_at before table) key ≡ b
        → next_of (versions_at after table) key ≡ next_side_of tables p V table key
    each Idle w h table key true e = let clash = sym e ∙ (λ i. h.split table i key) in cc
    each Idle w h table key false e =
        whole_rows_show_the_same (versions_at after table) key ((λ i. keeps.split table i key) ∙ e) ∙ (λ i. now table i key)
    each (Repairing E n) w h table key true e =
        let is_dirty : has_row (dirty_after tables W E n) table key ≡ true = sym (λ i. h.split table i key) ∙ e in
        keeps.next table key e ∙ (λ i. h.next table i key)
        ∙ sym (later_slots_leave_dirty_rows tables W s E n table key w ∙ ap (λ b. if b then next_side tables W E n table key else current_side V table key) is_dirty)
    each (Repairing E n) w h table key false e =
        let is_clean : has_row (dirty_after tables W E n) table key ≡ false = sym (λ i. h.split table i key) ∙ e in
        whole_rows_show_the_same (versions_at after table) key ((λ i. keeps.split table i key) ∙ e) ∙ (λ i. now table i key)
        ∙ sym (later_slots_leave_dirty_rows tables W s E n table key w ∙ ap (λ b. if b then next_side tables W E n table key else current_side V table key) is_clean)

pub HaveBothSides-empty : (tables : Tables) → HaveBothSides [] tables Idle []
unfolding row_writes
HaveBothSides-empty tables = record {
  current = CurrentAgrees-empty;
  next = λ table. ap next_of (past_end table) ∙ empty_table_shows_no_rows Next;
  split = λ table. ap is_split (past_end table) ∙ empty_table_splits_nothing;
}
  where
    past_end : (table : ℕ) → versions_at [] table ≡ no_lineages
    past_end zero = refl
    past_end (suc table) = refl

-- a repair begins on two sides that show the same
pub HaveBothSides-begin : (versions : TablesByPosition) (tables : Tables) (W : Slots) (E : List Edit) → HaveBothSides versions tables Idle W → HaveBothSides versions tables (Repairing E 0) W
HaveBothSides-begin versions tables W E have = record {
  current = have.current;
  next = λ table. have.next table ∙ sym (next_side_begins_as_current tables W E table);
  split = λ table. have.split table ∙ (λ i key. has_row (sym (nothing_is_dirty_at_first tables W E) i) table key);
}

-- a slot that isn't due leaves both sides
pub HaveBothSides-undue : (versions : TablesByPosition) (tables : Tables) (W : Slots) (E : List Edit) (n : ℕ) → is_due tables W E n ≡ false → HaveBothSides versions tables (Repairing E n) W → HaveBothSides versions tables (Repairing E (suc n)) W
HaveBothSides-undue versions tables W E n undue have = record {
  current = have.current;
  next = λ table. have.next table ∙ sym (undue_slots_leave_next_side tables W E n table undue);
  split = λ table. have.split table ∙ (λ i key. has_row (sym (undue_slots_dirty_nothing tables W E n undue) i) table key);
}

-- one that is due changes the re-executed rows of the next side
pub HaveBothSides-due : (before after : TablesByPosition) (tables : Tables) (W : Slots) (E : List Edit) (n : ℕ) → n ≤ length W → is_due tables W E n ≡ true → HaveBothSides before tables (Repairing E n) W
    → AreReexecuted before after (rows_reexecuted W E n) (suc n) (content_after (edited_slots W E) (suc n)) → HaveBothSides after tables (Repairing E (suc n)) W
HaveBothSides-due before after tables W E n within due have reexecuted = record {
  current = λ table. reexecuted.current table ∙ have.current table;
  next = λ table. λ i key time. next table key time i;
  split = λ table. λ i key. split table key i;
}
  where
    X : Content
    X = content_after (edited_slots W E) (suc n)

    pick : (b c : Bool) (x y : Option Row) → (if b && c then x else y) ≡ (if b then (if c then x else y) else y)
    pick true c x y = refl
    pick false c x y = refl

    next : (table : ℕ) (key : ℤ) (time : ℕ) → next_of (versions_at after table) key time ≡ next_side tables W E (suc n) table key time
    next table key time =
        reexecuted.next table key time
        ∙ pick (is_row_in (rows_reexecuted W E n) table key) (nat_le (suc n) time) (row_at (X table) key) (next_of (versions_at before table) key time)
        ∙ (λ i. let old = have.next table i key time in if is_row_in (rows_reexecuted W E n) table key then (if nat_le (suc n) time then row_at (X table) key else old) else old)
        ∙ sym (due_slots_change_reexecuted_rows tables W E n table key time within due)

    split : (table : ℕ) (key : ℤ) → is_split (versions_at after table) key ≡ has_row (dirty_after tables W E (suc n)) table key
    split table key =
        reexecuted.split table key
        ∙ (λ i. is_row_in (rows_reexecuted W E n) table key || have.split table i key)
        ∙ sym (dirty_rows_grow tables (content_after (edited_slots W E) n) X (rows_reexecuted W E n) (dirty_after tables W E n) table key)
        ∙ (λ i. has_row (sym (due_slots_dirty_reexecuted_rows tables W E n due) i) table key)

-- once all slots are done, the next side is that of the edited slots
pub HaveBothSides-switch : (before after : TablesByPosition) (tables : Tables) (W : Slots) (E : List Edit) → HaveBothSides before tables (Repairing E (length W)) W → ShowsSide Next before after → HaveBothSides after tables Idle (edited_slots W E)
HaveBothSides-switch before after tables W E have shows = record {
  current = λ table. shows.rows table Current ∙ all table;
  next = λ table. shows.rows table Next ∙ all table;
  split = shows.whole;
}
  where
    all : (table : ℕ) → next_of (versions_at before table) ≡ current_side (edited_slots W E) table
    all table = have.next table ∙ next_side_ends_as_edited_slots tables W E table ∙ (λ i. rows_by table (row_writes (edited_slots W E) (sym (edited_slots_are_as_many W E) i)))

-- without a repair both sides stay the same
pub HaveBothSides-idle : (before after : TablesByPosition) (tables : Tables) (W : Slots) → HaveBothSides before tables Idle W → ShowsSide Next before after → HaveBothSides after tables Idle W
HaveBothSides-idle before after tables W have shows = record {
  current = λ table. shows.rows table Current ∙ have.next table;
  next = λ table. shows.rows table Next ∙ have.next table;
  split = shows.whole;
}

-- the next side is given up for the current one
pub HaveBothSides-abort : (before after : TablesByPosition) (tables : Tables) (phase : Phase) (W : Slots) → HaveBothSides before tables phase W → ShowsSide Current before after → HaveBothSides after tables Idle W
HaveBothSides-abort before after tables phase W have shows = record {
  current = λ table. shows.rows table Current ∙ have.current table;
  next = λ table. shows.rows table Next ∙ have.current table;
  split = shows.whole;
}

-- before a slot is re-executed, the next side shows the content that the edited slots before it left
pub ShowsContentBefore-next : (versions : TablesByPosition) (tables : Tables) (W : Slots) (E : List Edit) (n : ℕ) → n < length W → HaveBothSides versions tables (Repairing E n) W
    → ShowsContentBefore versions (suc n) (content_after (edited_slots W E) n) (slot_rows_touched (slot_after W n) (content_after W n))
ShowsContentBefore-next versions tables W E n within have = record {
  rising = λ table. rows_rise (row_writes (edited_slots W E) n) n table;
  before = λ table key. (λ i. have.next table i key n) ∙ next_side_shows_edited_slots tables W E n n table key (omega (arith, within)) (omega arith);
  split = λ table key u is later.
      let is_dirty : has_row (dirty_after tables W E n) table key ≡ true = sym (λ i. have.split table i key) ∙ is in
      (λ i. have.next table i key u) ∙ (λ i. dirty_rows_are_as_edited tables W E n table key is_dirty i u) ∙ last_edited_rows_stay W E n table key u (omega (arith, later));
  untouched = λ table key is none.
      let is_clean : has_row (dirty_after tables W E n) table key ≡ false = sym (λ i. have.split table i key) ∙ is in
      (λ i. have.next table i key (suc n)) ∙ (λ i. clean_rows_are_as_current tables W E n table key is_clean i (suc n))
      ∙ (λ i. row_at (past_stays W (suc n) (length W) (suc n) (omega arith) (omega (arith, within)) i table) key)
      ∙ untouched_rows_stay W n table key none
      ∙ sym (clean_rows_agree tables W E n n table key (omega arith) is_clean);
}
