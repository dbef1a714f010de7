-- The numbers with which rows and partitions get dirty.
use Rattle.std.proofs.Common.{◌≡◌, ℕ, ℤ, Bool, true, false, not, ◌&&◌, ◌||◌, ◌==◌, ◌++◌, List, Option, None, Some, is_some, refl, sym, ap, ◌∙◌, true≢false}
use Rattle.std.specs.List.{list_any}
use Rattle.std.specs.Ordering.{int_eq}
use Rattle.std.proofs.lemmas.List.Folds.{list_any-append}
use Rattle.tt_values.specs.declared.row.Row.{Row}
use Rattle.tt_parts.specs.declared.partition.Partition.{Partition}
use Rattle.tt_parts.specs.declared.partition.Reads.TheVariants.{All}
use Rattle.tt_parts.specs.Partitions.{key_partition, is_same_partition, is_partition_in}
use Rattle.tt_parts.specs.Dirty.{DirtySet, DirtySince, DirtyTables, SameMembers, NumbersAgree, IsSinceWithRow, row_since, partition_since, table_since, since_or, has_row, has_row_of, has_partition, columns_in, parts_if, partitions_with_row, with_row_in}
use Rattle.tt_parts.proofs.LawProofs.{clear_depends_on_members}
use Rattle.tt_causes.specs.Numbers.{GotDirtyAt}

not_injective : (a b : Bool) → not a ≡ not b → a ≡ b
not_injective true true h = refl
not_injective true false h = absurd (true≢false (sym h))
not_injective false true h = absurd (true≢false h)
not_injective false false h = refl

-- sets with the same members have dirty rows of the same tables
pub same_table : (C D : DirtySet) (table : ℕ) → SameMembers C D → has_row_of C table ≡ has_row_of D table
same_table C D table same = not_injective (has_row_of C table) (has_row_of D table) (clear_depends_on_members C D (All table) same)

pub GotDirtyAt-same : (old : DirtySince) (number : ℕ) (C D : DirtySet) (new : DirtySince) → SameMembers C D → GotDirtyAt old number C new → GotDirtyAt old number D new
GotDirtyAt-same old number C D new same got = record {
  rows = λ table key. got.rows table key ∙ ap (λ b. since_or (row_since old table key) b number) (same.rows table key);
  partitions = λ p. got.partitions p ∙ ap (λ b. since_or (partition_since old p) b number) (same.partitions p);
  tables = λ table. got.tables table ∙ ap (λ b. since_or (table_since old table) b number) (same_table C D table same);
}

-- what may get dirty twice with a number
since_or-twice : (o : Option ℕ) (a b : Bool) (number : ℕ) → since_or (since_or o a number) b number ≡ since_or o (b || a) number
since_or-twice (Some k) a b number = refl
since_or-twice None true true number = refl
since_or-twice None true false number = refl
since_or-twice None false true number = refl
since_or-twice None false false number = refl

or-assoc : (a b c : Bool) → ((a || b) || c) ≡ (a || (b || c))
or-assoc true b c = refl
or-assoc false b c = refl

-- one row more gets dirty with the number
pub GotDirtyAt-row : (old : DirtySince) (before after : DirtyTables) (table : ℕ) (key : ℤ) (first last : Option Row) (number : ℕ) → GotDirtyAt old number before.dirty before.since
    → SameMembers after.dirty (with_row_in before table key first last) → IsSinceWithRow before.since table (columns_in before.catalog table) key first last number after.since → GotDirtyAt old number after.dirty after.since
GotDirtyAt-row old before after table key first last number got same added = record {
  rows = λ t k.
      added.rows t k
      ∙ ap (λ o. since_or o ((t == table) && int_eq k key) number) (got.rows t k)
      ∙ since_or-twice (row_since old t k) (has_row before.dirty t k) ((t == table) && int_eq k key) number
      ∙ ap (λ b. since_or (row_since old t k) b number) (sym (same.rows t k));
  partitions = λ p.
      added.partitions p
      ∙ ap (λ o. since_or o (is_partition_in parts p) number) (got.partitions p)
      ∙ since_or-twice (partition_since old p) (has_partition before.dirty p) (is_partition_in parts p) number
      ∙ ap (λ b. since_or (partition_since old p) b number) (sym (same.partitions p ∙ all p));
  tables = λ t.
      added.tables t
      ∙ ap (λ o. since_or o (t == table) number) (got.tables t)
      ∙ since_or-twice (table_since old t) (has_row_of before.dirty t) (t == table) number
      ∙ ap (λ b. since_or (table_since old t) b number) (sym (same_table after.dirty (with_row_in before table key first last) t same));
}
  where
    parts : List Partition
    parts = partitions_with_row table (columns_in before.catalog table) key first last

    all : (p : Partition) → has_partition (with_row_in before table key first last) p ≡ (is_partition_in parts p || has_partition before.dirty p)
    all p =
        let columns = columns_in before.catalog table in
        ap (λ b. is_same_partition p (key_partition table key) || b) (list_any-append (is_same_partition p) (parts_if table columns first ++ parts_if table columns last) before.dirty.partitions)
        ∙ sym (or-assoc (is_same_partition p (key_partition table key)) (list_any (is_same_partition p) (parts_if table columns first ++ parts_if table columns last)) (has_partition before.dirty p))

-- nothing has got dirty yet
since_or-there : (o : Option ℕ) (b : Bool) (number : ℕ) → is_some o ≡ b → o ≡ since_or o b number
since_or-there None true number h = absurd (true≢false (sym h))
since_or-there None false number h = refl
since_or-there (Some k) b number h = refl

pub GotDirtyAt-none : (D : DirtySet) (since : DirtySince) (number : ℕ) → NumbersAgree D since → GotDirtyAt since number D since
GotDirtyAt-none D since number agree = record {
  rows = λ table key. since_or-there (row_since since table key) (has_row D table key) number (agree.rows table key);
  partitions = λ p. since_or-there (partition_since since p) (has_partition D p) number (agree.partitions p);
  tables = λ table. since_or-there (table_since since table) (has_row_of D table) number (agree.tables table);
}
