-- Dirty sets that track where two contents differ.
use Rattle.std.proofs.Common.{◌≡◌, ℕ, ℤ, Bool, true, false, cond, ◌||◌, List, [], ◌∷◌, ◌++◌, map, fold, length, Option, None, Some, is_some, if◌then◌else◌, T, refl, sym, ap, subst, ◌∙◌, int_cmp, true≢false}
use Rattle.std.specs.List.{list_any, list_all}
use Rattle.std.specs.FinMap.Entries as sorted
use Rattle.std.specs.Cmp.{int_cmp_total}
use Rattle.std.specs.Ordering.{is_eq}
use Rattle.std.proofs.lemmas.Bool.{or_parts, not-false}
use Rattle.tt_values.specs.declared.row.Row.{Row}
use Rattle.tt_values.specs.declared.row_id.RowId.{RowId}
use Rattle.tt_values.specs.declared.statement.Equal.{Equal}
use Rattle.tt_values.specs.declared.statement.Write.{Write}
use Rattle.tt_values.specs.declared.statement.Write.TheVariants.{Insert, Update, Delete}
use Rattle.tt_values.specs.declared.action.Action.{Action}
use Rattle.tt_values.specs.declared.reply.Reply.TheVariants.{Inserted, Duplicate, Updated, Deleted}
use Rattle.tt_values.specs.Row.{key_of}
use Rattle.tt_values.specs.Matches.{matches}
use Rattle.tt_values.specs.Change.{changed}
use Rattle.tt_values.specs.Tables.{Tables}
use Rattle.tt_values.specs.Content.{Content, RowWrite, row_at, with_row_write}
use Rattle.tt_values.specs.Effect.{matching_rows, effect, reply_of}
use Rattle.tt_values.specs.ActionLaws.{IsByRisingKey}
use Rattle.tt_values.specs.RowWrites.{slot_writes}
use Rattle.tt_parts.specs.Partitions.{parts_of, equated_partitions}
use Rattle.tt_parts.specs.Dirty.{columns_in, DirtySet, has_row, has_partition, is_clear}
use Rattle.tt_repair_laws.specs.Due.{is_write_affected, slot_rows_touched, slot_rows_matched, with_row_of}
use Rattle.tt_repair_laws.proofs.RowListsLemmas.{if_passes, is_sorted-filter, row_at-filter, fails_at, list_any-map, list_none-append, list_all_if, same_key}
use Rattle.tt_repair_laws.proofs.DirtyLemmas.{is_row, equated_partitions_are_dirty, not_clear, has_row-with_rows, clean_before, has_partition-with_rows, rows_lie_in_dirty_partitions}
use Rattle.tt_repair_laws.proofs.EffectsLemmas.{row_at-untouched, row_at-agree, slot_unmatched_untouched}

-- a dirty set tracks where two contents differ: they have the same clean rows, and the partitions in which a dirty row of the second lies are dirty
pub record Tracks (tables : Tables) (D : DirtySet) (X Y : Content) : Type 0 where
  pub agree : (table : ℕ) (key : ℤ) → has_row D table key ≡ false → row_at (X table) key ≡ row_at (Y table) key
  pub parts : (table : ℕ) (key : ℤ) (row : Row) → has_row D table key ≡ true → row_at (Y table) key ≡ Some row → list_all (has_partition D) (parts_of table (columns_in tables table) row) ≡ true

module _ (tables : Tables) (D : DirtySet) (X Y : Content) (tracks : Tracks tables D X Y) where
  -- equalities match the same rows in both contents if they match no dirty row of the first and are clear
  module _ (rising : IsByRisingKey X) (rising2 : IsByRisingKey Y) (table : ℕ) (qs : List Equal) where
    rises : T (sorted.is_sorted int_cmp (X table))
    rises = subst T (sym (rising table)) tt

    rises2 : T (sorted.is_sorted int_cmp (Y table))
    rises2 = subst T (sym (rising2 table)) tt

    unmatched_before : (key : ℤ) → has_row D table key ≡ true → list_any (λ e. has_row D table e.0) (matching_rows qs (X table)) ≡ false → (o : Option Row) → row_at (X table) key ≡ o → if_passes (matches qs) o ≡ None
    unmatched_before key dirty none None is = refl
    unmatched_before key dirty none (Some r) is = by (matches qs r) refl
      where
        by : (b : Bool) → matches qs r ≡ b → cond b (Some r) None ≡ None
        by true e =
            let here = row_at-filter (matches qs) (X table) key rises ∙ ap (if_passes (matches qs)) is ∙ ap (λ b. cond b (Some r) None) e in
            absurd (true≢false (sym dirty ∙ fails_at (has_row D table) (matching_rows qs (X table)) key r here none))
        by false e = refl

    unmatched_after : (key : ℤ) → has_row D table key ≡ true → is_clear D table (equated_partitions table (columns_in tables table) qs) ≡ true → (o : Option Row) → row_at (Y table) key ≡ o → if_passes (matches qs) o ≡ None
    unmatched_after key dirty clear None is = refl
    unmatched_after key dirty clear (Some r) is = by (matches qs r) refl
      where
        by : (b : Bool) → matches qs r ≡ b → cond b (Some r) None ≡ None
        by true e =
            let all = equated_partitions_are_dirty D table (columns_in tables table) r qs e (tracks.parts table key r dirty is) in
            absurd (true≢false (sym clear ∙ not_clear D table key (equated_partitions table (columns_in tables table) qs) dirty all))
        by false e = refl

    same_matches : list_any (λ e. has_row D table e.0) (matching_rows qs (X table)) ≡ false → is_clear D table (equated_partitions table (columns_in tables table) qs) ≡ true → matching_rows qs (X table) ≡ matching_rows qs (Y table)
    same_matches none clear =
        sorted.same_entries int_cmp int_cmp_total (λ x y e. same_key x y (ap is_eq e)) _ _ (is_sorted-filter (matches qs) (X table) rises) (is_sorted-filter (matches qs) (Y table) rises2) same
      where
        by : (key : ℤ) (b : Bool) → has_row D table key ≡ b → if_passes (matches qs) (row_at (X table) key) ≡ if_passes (matches qs) (row_at (Y table) key)
        by key true e = unmatched_before key e none (row_at (X table) key) refl ∙ sym (unmatched_after key e clear (row_at (Y table) key) refl)
        by key false e = ap (if_passes (matches qs)) (tracks.agree table key e)

        same : (key : ℤ) → row_at (matching_rows qs (X table)) key ≡ row_at (matching_rows qs (Y table)) key
        same key = row_at-filter (matches qs) (X table) key rises ∙ by key (has_row D table key) refl ∙ sym (row_at-filter (matches qs) (Y table) key rises2)

  -- a write that isn't affected has the same effect and the same reply on both
  module _ (rises : IsByRisingKey X) (rises2 : IsByRisingKey Y) where
    clean_matching_rows : (table : ℕ) (f : ℤ × Row → Option Row) (es : List (ℤ × Row)) → list_any (λ (r : RowId). has_row D r.table r.key) (map (λ (e : ℤ × Option Row). record { table = table; key = e.0 }) (map (λ e. (e.0, f e)) es)) ≡ false → list_any (λ e. has_row D table e.0) es ≡ false
    clean_matching_rows table f es h =
        sym (list_any-map (λ (r : RowId). has_row D r.table r.key) (λ (e : ℤ × Option Row). record { table = table; key = e.0 }) (map (λ e. (e.0, f e)) es) ∙ list_any-map (λ (e : ℤ × Option Row). has_row D table e.0) (λ e. (e.0, f e)) es) ∙ h

    pub unaffected : (w : Write) → is_write_affected tables D w X ≡ false → (effect w Y ≡ effect w X) × (reply_of w Y ≡ reply_of w X)
    unaffected (Insert table row) h =
        let same = sym (tracks.agree table (key_of row) (or_parts _ _ (or_parts _ _ h).0).1) in
        (ap (λ o. if is_some o then [] else (key_of row, Some row) ∷ []) same, ap (λ o. if is_some o then Duplicate else Inserted) same)
    unaffected (Update table cs qs) h =
        let same = sym (same_matches rises rises2 table qs (clean_matching_rows table (λ e. Some (changed e.1 cs)) (matching_rows qs (X table)) (or_parts _ _ (or_parts _ _ h).0).0) (not-false _ (or_parts _ _ h).1)) in
        let pairs : effect (Update table cs qs) Y ≡ effect (Update table cs qs) X = ap (map (λ e. (e.0, Some (changed e.1 cs)))) same in
        (pairs, ap (λ es. Updated (length es)) pairs)
    unaffected (Delete table qs) h =
        let same = sym (same_matches rises rises2 table qs (clean_matching_rows table (λ e. None) (matching_rows qs (X table)) (or_parts _ _ (or_parts _ _ h).0).0) (not-false _ (or_parts _ _ h).1)) in
        let pairs : effect (Delete table qs) Y ≡ effect (Delete table qs) X = ap (map (λ e. (e.0, None))) same in
        (pairs, ap (λ es. Deleted (length es)) pairs)

  -- the set tracks two contents after the same row writes, if these are for no dirty row of the second
  pub Tracks-same_writes : (ws : List RowWrite) (X2 Y2 : Content) → X2 ≡ fold with_row_write X ws → Y2 ≡ fold with_row_write Y ws →
      ((table : ℕ) (key : ℤ) → has_row D table key ≡ true → row_at (Y2 table) key ≡ row_at (Y table) key) → Tracks tables D X2 Y2
  Tracks-same_writes ws X2 Y2 is is2 stays = record {
    agree = λ table key clean.
        ap (λ Z. row_at (Z table) key) is ∙ row_at-agree ws X Y table key (tracks.agree table key clean) ∙ ap (λ Z. row_at (Z table) key) (sym is2);
    parts = λ table key row dirty there. tracks.parts table key row dirty (sym (stays table key dirty) ∙ there);
  }

  -- the set tracks the contents after two slots once the rows are dirty that the first touched and those that the second matches
  pub Tracks-reexecuted : (time : ℕ) (s v : Option Action) (X2 Y2 : Content) → X2 ≡ fold with_row_write X (slot_writes time s X) → Y2 ≡ fold with_row_write Y (slot_writes time v Y) →
      Tracks tables (fold (with_row_of tables Y Y2) D (slot_rows_touched s X ++ slot_rows_matched v Y)) X2 Y2
  Tracks-reexecuted time s v X2 Y2 is is2 = record { agree = agree2; parts = λ table key row dirty there. parts2 table key row there (list_any (is_row table key) rows) refl dirty }
    where
      rows : List RowId
      rows = slot_rows_touched s X ++ slot_rows_matched v Y

      E : DirtySet
      E = fold (with_row_of tables Y Y2) D rows

      stays : (table : ℕ) (key : ℤ) → list_any (is_row table key) rows ≡ false → row_at (Y2 table) key ≡ row_at (Y table) key
      stays table key none =
          let unmatched = (list_none-append (is_row table key) (slot_rows_touched s X) (slot_rows_matched v Y) none).1 in
          ap (λ Z. row_at (Z table) key) is2 ∙ row_at-untouched time v Y table key (slot_unmatched_untouched v Y table key unmatched)

      agree2 : (table : ℕ) (key : ℤ) → has_row E table key ≡ false → row_at (X2 table) key ≡ row_at (Y2 table) key
      agree2 table key clean =
          let both = clean_before tables Y Y2 rows D table key clean in
          let untouched = (list_none-append (is_row table key) (slot_rows_touched s X) (slot_rows_matched v Y) both.0).0 in
          ap (λ Z. row_at (Z table) key) is ∙ row_at-untouched time s X table key untouched ∙ tracks.agree table key both.1 ∙ sym (stays table key both.0)

      parts2 : (table : ℕ) (key : ℤ) (row : Row) → row_at (Y2 table) key ≡ Some row → (b : Bool) → list_any (is_row table key) rows ≡ b → has_row E table key ≡ true → list_all (has_partition E) (parts_of table (columns_in tables table) row) ≡ true
      parts2 table key row there true among dirty = rows_lie_in_dirty_partitions tables Y Y2 rows D table key row among there
      parts2 table key row there false none dirty =
          let before = sym (ap (λ b. b || has_row D table key) none) ∙ sym (has_row-with_rows tables Y Y2 rows D table key) ∙ dirty in
          list_all_if (has_partition D) (has_partition E) (λ p. has_partition-with_rows tables Y Y2 rows D p) (parts_of table (columns_in tables table) row) (tracks.parts table key row before (sym (stays table key none) ∙ there))
