-- Dirty sets by their members.
use Rattle.std.proofs.Common.{◌≡◌, ℕ, ℤ, Bool, true, false, not, ◌||◌, ◌&&◌, ◌==◌, List, [], ◌∷◌, ◌++◌, map, filter, if◌then◌else◌, refl, sym, ap, ◌∙◌}
use Rattle.std.specs.List.{list_any}
use Rattle.std.specs.Ordering.{int_eq}
use Rattle.std.proofs.lemmas.Bool.Decides.{Decides-int_eq}
use Rattle.std.proofs.lemmas.List.Folds.{list_any-append}
use Rattle.tt_parts.specs.declared.partition.Partition.{Partition}
use Rattle.tt_parts.specs.declared.partition.Reads.TheVariants.{All, Equated}
use Rattle.tt_values.specs.declared.row_id.RowId.{RowId}
use Rattle.tt_values.specs.declared.table.Column.{Column}
use Rattle.tt_values.specs.declared.statement.Equal.{Equal}
use Rattle.tt_parts.specs.Partitions.{key_partition, equates_partition, partition_of, equated_partitions, is_same_partition, is_partition_in}
use Rattle.tt_parts.specs.Dirty.{DirtySet, is_row_in, is_table_in, has_row_of, has_other_partition, is_clear, SameRows, SamePartitions, parts_if}
use Rattle.tt_parts.specs.Laws.{SameMembersWithRow, ClearDependsOnMembers, ReadsDecideClear}

pub same_members_with_row : SameMembersWithRow
same_members_with_row D E table columns key before after h = record {
  rows = λ t k. ap (λ b. ((t == table) && int_eq k key) || b) (h.rows t k);
  partitions = λ p. ap (λ b. is_same_partition p (key_partition table key) || b) (rest p);
}
  where
    parts : List Partition
    parts = parts_if table columns before ++ parts_if table columns after

    rest : SamePartitions (parts ++ D.partitions) (parts ++ E.partitions)
    rest p =
        let same = is_same_partition p in
        list_any-append same parts D.partitions ∙ ap (λ b. list_any same parts || b) (h.partitions p) ∙ sym (list_any-append same parts E.partitions)

-- a row of a list is of its table
pub is_table_in-row : (rs : List RowId) (table : ℕ) (key : ℤ) → is_row_in rs table key ≡ true → is_table_in rs table ≡ true
is_table_in-row [] table key h = h
is_table_in-row (r ∷ rs) table key h = by (table == r.table) (int_eq key r.key) h (is_table_in-row rs table key)
  where
    by : (a b : Bool) → ((a && b) || is_row_in rs table key) ≡ true → (is_row_in rs table key ≡ true → is_table_in rs table ≡ true) → (a || is_table_in rs table) ≡ true
    by true b g rest = refl
    by false b g rest = rest g

-- a list with a row of a table has a row with some key of it
pub row_of_table : (rs : List RowId) (table : ℕ) → is_table_in rs table ≡ true → (key : ℤ) × (is_row_in rs table key ≡ true)
row_of_table [] table h = cc
row_of_table (r ∷ rs) table h = by (table == r.table) refl h (row_of_table rs table)
  where
    by : (a : Bool) → (table == r.table) ≡ a → (a || is_table_in rs table) ≡ true → (is_table_in rs table ≡ true → (key : ℤ) × (is_row_in rs table key ≡ true)) → (key : ℤ) × (is_row_in (r ∷ rs) table key ≡ true)
    by true e g rest = (r.key, (λ j. (e j && (Decides-int_eq r.key r.key).1 refl j) || is_row_in rs table r.key))
    by false e g rest = ((rest g).0, (λ j. (e j && int_eq (rest g).0 r.key) || (rest g).1 j))

-- two tests agree where each holds with the other
pub agree : (a b : Bool) → (a ≡ true → b ≡ true) → (b ≡ true → a ≡ true) → a ≡ b
agree true b h g = sym (h refl)
agree false true h g = g refl
agree false false h g = refl

-- lists with the same rows have rows of the same tables
same_tables : (rs ss : List RowId) (table : ℕ) → SameRows rs ss → is_table_in rs table ≡ true → is_table_in ss table ≡ true
same_tables rs ss table h e =
    let w = row_of_table rs table e in
    is_table_in-row ss table w.0 (sym (h table w.0) ∙ w.1)

pub clear_depends_on_members : ClearDependsOnMembers
clear_depends_on_members D E (All table) h = ap not (agree (has_row_of D table) (has_row_of E table) (same_tables D.rows E.rows table h.rows) (same_tables E.rows D.rows table (λ t k. sym (h.rows t k))))
clear_depends_on_members D E (Equated ps) h = λ j. list_any (λ p. not (h.partitions p j)) ps

pub reads_decide_clear : ReadsDecideClear
reads_decide_clear D table [] = refl
reads_decide_clear D table (p ∷ ps) = refl

-- the partitions of the equalities, one by one
any_equated : (test : Partition → Bool) (table : ℕ) (columns : List Column) (qs : List Equal) →
    list_any test (equated_partitions table columns qs) ≡ list_any (λ q. equates_partition columns q && test (partition_of table q)) qs
any_equated test table columns [] = refl
any_equated test table columns (q ∷ qs) = by (equates_partition columns q) (any_equated test table columns qs)
  where
    by : (b : Bool) → list_any test (equated_partitions table columns qs) ≡ list_any (λ q. equates_partition columns q && test (partition_of table q)) qs
        → list_any test (map (partition_of table) (if b then q ∷ filter (equates_partition columns) qs else filter (equates_partition columns) qs))
        ≡ ((b && test (partition_of table q)) || list_any (λ q. equates_partition columns q && test (partition_of table q)) qs)
    by true same = ap (λ b. test (partition_of table q) || b) same
    by false same = same

-- where an equality is on a partition column, one partition that isn't dirty makes the statement clear
pub clear_where_equated : (D : DirtySet) (table : ℕ) (columns : List Column) (qs : List Equal) → list_any (equates_partition columns) qs ≡ true →
    is_clear D table (equated_partitions table columns qs) ≡ list_any (λ q. equates_partition columns q && not (is_partition_in D.partitions (partition_of table q))) qs
clear_where_equated D table columns qs some = by (equated_partitions table columns qs) (any_equated (λ p. true) table columns qs ∙ always qs ∙ some) ∙ any_equated (λ p. not (is_partition_in D.partitions p)) table columns qs
  where
    both : (b : Bool) → (b && true) ≡ b
    both true = refl
    both false = refl

    always : (rs : List Equal) → list_any (λ q. equates_partition columns q && true) rs ≡ list_any (equates_partition columns) rs
    always [] = refl
    always (r ∷ rs) = λ i. both (equates_partition columns r) i || always rs i

    by : (ps : List Partition) → list_any (λ p. true) ps ≡ true → is_clear D table ps ≡ has_other_partition D.partitions ps
    by [] e = cc
    by (p ∷ ps) e = refl

-- where none is, the statement reads the whole table
pub clear_where_none : (D : DirtySet) (table : ℕ) (columns : List Column) (qs : List Equal) → list_any (equates_partition columns) qs ≡ false →
    is_clear D table (equated_partitions table columns qs) ≡ not (has_row_of D table)
clear_where_none D table columns qs none = ap (is_clear D table) (no_partitions qs none)
  where
    no_partitions : (rs : List Equal) → list_any (equates_partition columns) rs ≡ false → equated_partitions table columns rs ≡ []
    no_partitions [] e = refl
    no_partitions (r ∷ rs) e = by (equates_partition columns r) e (no_partitions rs)
      where
        by : (b : Bool) → (b || list_any (equates_partition columns) rs) ≡ false → (list_any (equates_partition columns) rs ≡ false → equated_partitions table columns rs ≡ [])
            → map (partition_of table) (if b then r ∷ filter (equates_partition columns) rs else filter (equates_partition columns) rs) ≡ []
        by true h rest = cc
        by false h rest = rest h
