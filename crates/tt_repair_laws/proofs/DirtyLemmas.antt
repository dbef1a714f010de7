-- The rows and partitions that are dirty after rows get dirty.
use Rattle.std.proofs.Common.{◌≡◌, ℕ, ℤ, Bool, true, false, ◌&&◌, ◌||◌, ◌==◌, List, [], ◌∷◌, ◌++◌, fold, Option, Some, refl, sym, ap, ◌∙◌, eqb-true, true≢false}
use Rattle.std.specs.List.{list_any, list_all}
use Rattle.std.specs.Ordering.{int_eq}
use Rattle.std.proofs.lemmas.Bool.{and_parts, or_left, or_right, or_parts, false_from_ne_true, not_from_true}
use Rattle.std.proofs.lemmas.List.Folds.{list_any-append}
use Rattle.tt_values.specs.declared.row.Row.{Row}
use Rattle.tt_values.specs.declared.row_id.RowId.{RowId}
use Rattle.tt_values.specs.declared.table.Column.{Column}
use Rattle.tt_values.specs.declared.statement.Equal.{Equal}
use Rattle.tt_values.specs.Matches.{matches}
use Rattle.tt_values.specs.Tables.{Tables}
use Rattle.tt_values.specs.Content.{Content, row_at}
use Rattle.tt_parts.specs.declared.partition.Partition.{Partition}
use Rattle.tt_parts.specs.Partitions.{parts_of, equated_partitions, is_same_partition, is_partition_in}
use Rattle.tt_parts.specs.Dirty.{columns_in, DirtySet, has_row, has_row_of, has_partition, parts_if, with_row, is_clear}
use Rattle.tt_parts.proofs.LawProofs.{same_partitions_are_equal, each_partition_is_in_its_list, matched_rows_lie_in_equated_partitions}
use Rattle.tt_repair_laws.specs.Due.{with_row_of}
use Rattle.tt_repair_laws.specs.Steps.{DirtyRowsGrow}
use Rattle.tt_repair_laws.proofs.RowListsLemmas.{list_all_if, list_any_if, none_fails, same_key}

-- whether a row is that of a key of a table
abbrev pub is_row : ℕ → ℤ → RowId → Bool
is_row table key r = (table == r.table) && int_eq key r.key

same_row : (table : ℕ) (key : ℤ) (r : RowId) → is_row table key r ≡ true → (table ≡ r.table) × (key ≡ r.key)
same_row table key r h = let both = and_parts _ _ h in (eqb-true table r.table both.0, same_key key r.key both.1)

-- a dirty row isn't one of some rows that are clean
pub clean_rows_differ : (D : DirtySet) (rs : List RowId) (table : ℕ) (key : ℤ) → has_row D table key ≡ true → list_any (λ r. has_row D r.table r.key) rs ≡ false → list_any (is_row table key) rs ≡ false
clean_rows_differ D rs table key dirty clean = false_from_ne_true _ (λ there. true≢false (sym (list_any_if (is_row table key) (λ r. has_row D r.table r.key) like rs there) ∙ clean))
  where
    like : (r : RowId) → is_row table key r ≡ true → has_row D r.table r.key ≡ true
    like r h = let same = same_row table key r h in (λ i. has_row D (sym same.0 i) (sym same.1 i)) ∙ dirty

-- a test that each partition of a list passes is passed by a partition that is in the list
passes_in : (test : Partition → Bool) (ps : List Partition) (p : Partition) → list_all test ps ≡ true → is_partition_in ps p ≡ true → test p ≡ true
passes_in test [] p all h = absurd (true≢false (sym h))
passes_in test (q ∷ ps) p all h = by (is_same_partition p q) refl h (passes_in test ps p (and_parts _ _ all).1)
  where
    by : (b : Bool) → is_same_partition p q ≡ b → (b || is_partition_in ps p) ≡ true → (is_partition_in ps p ≡ true → test p ≡ true) → test p ≡ true
    by true e g rest = ap test ((same_partitions_are_equal p q).0 e) ∙ (and_parts _ _ all).0
    by false e g rest = rest g

-- where the partitions of a row are dirty, so are those of the equalities that hold in it
pub equated_partitions_are_dirty : (D : DirtySet) (table : ℕ) (columns : List Column) (row : Row) (qs : List Equal) → matches qs row ≡ true → list_all (has_partition D) (parts_of table columns row) ≡ true → list_all (has_partition D) (equated_partitions table columns qs) ≡ true
equated_partitions_are_dirty D table columns row qs h dirty =
    let parts = parts_of table columns row in
    list_all_if (is_partition_in parts) (has_partition D) (λ p. passes_in (has_partition D) parts p dirty) (equated_partitions table columns qs) (matched_rows_lie_in_equated_partitions table columns row qs h)

-- a statement isn't clear if its table has a dirty row, and each of its partitions is dirty
pub not_clear : (D : DirtySet) (table : ℕ) (key : ℤ) (ps : List Partition) → has_row D table key ≡ true → list_all (has_partition D) ps ≡ true → is_clear D table ps ≡ false
not_clear D table key [] dirty all = not_from_true (has_row_of D table) (list_any_if (is_row table key) (λ r. table == r.table) (λ r h. (and_parts _ _ h).0) D.rows dirty)
not_clear D table key (p ∷ ps) dirty all = none_fails (has_partition D) (p ∷ ps) all

-- the partitions that are dirty after one row gets dirty
module _ (D : DirtySet) (table : ℕ) (columns : List Column) (key : ℤ) (before after : Option Row) where
  has_partition-with_row : (p : Partition) → has_partition D p ≡ true → has_partition (with_row D table columns key before after) p ≡ true
  has_partition-with_row p h =
      or_right _ _ (list_any-append (is_same_partition p) (parts_if table columns before ++ parts_if table columns after) D.partitions ∙ or_right _ _ h)

  parts_after_are_dirty : list_all (has_partition (with_row D table columns key before after)) (parts_if table columns after) ≡ true
  parts_after_are_dirty =
      list_all_if (is_partition_in (parts_if table columns after)) (has_partition (with_row D table columns key before after)) has (parts_if table columns after) (each_partition_is_in_its_list (parts_if table columns after))
    where
      has : (p : Partition) → is_partition_in (parts_if table columns after) p ≡ true → has_partition (with_row D table columns key before after) p ≡ true
      has p h =
          let among = list_any-append (is_same_partition p) (parts_if table columns before) (parts_if table columns after) ∙ or_right _ _ h in
          or_right _ _ (list_any-append (is_same_partition p) (parts_if table columns before ++ parts_if table columns after) D.partitions ∙ or_left _ _ among)

or-swap : (a b c : Bool) → (b || (a || c)) ≡ ((a || b) || c)
or-swap true true c = refl
or-swap true false c = refl
or-swap false true c = refl
or-swap false false c = refl

module _ (tables : Tables) (before after : Content) where
  abbrev with_rows : DirtySet → List RowId → DirtySet
  with_rows D rs = fold (with_row_of tables before after) D rs

  pub has_row-with_rows : (rs : List RowId) (D : DirtySet) (table : ℕ) (key : ℤ) → has_row (with_rows D rs) table key ≡ (list_any (is_row table key) rs || has_row D table key)
  has_row-with_rows [] D table key = refl
  has_row-with_rows (r ∷ rs) D table key =
      has_row-with_rows rs (with_row_of tables before after D r) table key ∙ or-swap (is_row table key r) (list_any (is_row table key) rs) (has_row D table key)

  -- a row that is clean after some rows get dirty isn't one of them, and was clean before
  pub clean_before : (rs : List RowId) (D : DirtySet) (table : ℕ) (key : ℤ) → has_row (with_rows D rs) table key ≡ false → (list_any (is_row table key) rs ≡ false) × (has_row D table key ≡ false)
  clean_before rs D table key h = or_parts (list_any (is_row table key) rs) (has_row D table key) (sym (has_row-with_rows rs D table key) ∙ h)

  -- a dirty partition stays dirty
  pub has_partition-with_rows : (rs : List RowId) (D : DirtySet) (p : Partition) → has_partition D p ≡ true → has_partition (with_rows D rs) p ≡ true
  has_partition-with_rows [] D p h = h
  has_partition-with_rows (r ∷ rs) D p h =
      has_partition-with_rows rs (with_row_of tables before after D r) p (has_partition-with_row D r.table (columns_in tables r.table) r.key (row_at (before r.table) r.key) (row_at (after r.table) r.key) p h)

  -- each of the rows lies in dirty partitions
  pub rows_lie_in_dirty_partitions : (rs : List RowId) (D : DirtySet) (table : ℕ) (key : ℤ) (row : Row) → list_any (is_row table key) rs ≡ true → row_at (after table) key ≡ Some row →
      list_all (has_partition (with_rows D rs)) (parts_of table (columns_in tables table) row) ≡ true
  rows_lie_in_dirty_partitions [] D table key row among there = absurd (true≢false (sym among))
  rows_lie_in_dirty_partitions (r ∷ rs) D table key row among there = by (is_row table key r) refl among (λ later. rows_lie_in_dirty_partitions rs next table key row later there)
    where
      next : DirtySet
      next = with_row_of tables before after D r

      by : (b : Bool) → is_row table key r ≡ b → (b || list_any (is_row table key) rs) ≡ true →
          (list_any (is_row table key) rs ≡ true → list_all (has_partition (with_rows next rs)) (parts_of table (columns_in tables table) row) ≡ true) →
          list_all (has_partition (with_rows next rs)) (parts_of table (columns_in tables table) row) ≡ true
      by true e g rest =
          let same = same_row table key r e in
          let parts = ap (λ o. parts_if table (columns_in tables table) o) (sym there) ∙ (λ i. parts_if (same.0 i) (columns_in tables (same.0 i)) (row_at (after (same.0 i)) (same.1 i))) in
          ap (list_all (has_partition (with_rows next rs))) parts
          ∙ list_all_if (has_partition next) (has_partition (with_rows next rs)) (λ p. has_partition-with_rows rs next p) _
          (parts_after_are_dirty D r.table (columns_in tables r.table) r.key (row_at (before r.table) r.key) (row_at (after r.table) r.key))
      by false e g rest = rest g

pub dirty_rows_grow : DirtyRowsGrow
dirty_rows_grow tables X Y rs D table key = has_row-with_rows tables X Y rs D table key
