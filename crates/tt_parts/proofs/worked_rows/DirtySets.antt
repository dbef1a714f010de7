-- Account 1 gets dirty: it was Ann's before, and is Eve's after.
use Rattle.std.proofs.Common.{◌≡◌, ℕ, pos, true, false, List, [], ◌∷◌, Some, refl, ap, ◌∙◌}
use Rattle.tt_values.specs.declared.value.Value.TheVariants as values
use Rattle.tt_values.proofs.worked_rows.Accounts.{columns, ann, bob, eve, account}
use Rattle.tt_parts.specs.declared.partition.Partition.{Partition}
use Rattle.tt_parts.specs.declared.partition.Reads.TheVariants.{All, Equated}
use Rattle.tt_parts.specs.Partitions.{key_partition}
use Rattle.tt_parts.specs.Dirty.{DirtySet, DirtySince, nothing_dirty, nothing_since, with_row, has_row, row_since, partition_since, table_since, since_or, IsSinceWithRow, is_clear_of}

abbrev dirty : DirtySet
dirty = with_row nothing_dirty 0 columns (pos 1) (Some (account 1 ann 10)) (Some (account 1 eve 10))

abbrev id_partition : ℕ → Partition
id_partition id = key_partition 0 (pos id)

abbrev owner_partition : List ℕ → Partition
owner_partition owner = record { table = 0; column = 1; value = values.Text owner }

-- the row is dirty, and no other
dirty_rows : (has_row dirty 0 (pos 1) ≡ true) × (has_row dirty 0 (pos 2) ≡ false) × (has_row dirty 1 (pos 1) ≡ false)
dirty_rows = (refl, refl, refl)

-- both owners and the key are dirty, and no other
dirty_partitions :
    (is_clear_of dirty (Equated (owner_partition ann ∷ [])) ≡ false)
    × (is_clear_of dirty (Equated (owner_partition eve ∷ [])) ≡ false)
    × (is_clear_of dirty (Equated (id_partition 1 ∷ [])) ≡ false)
    × (is_clear_of dirty (Equated (owner_partition bob ∷ [])) ≡ true)
dirty_partitions = (refl, refl, refl, refl)

-- one partition that isn't dirty is enough
one_clean_partition : is_clear_of dirty (Equated (id_partition 2 ∷ owner_partition ann ∷ [])) ≡ true
one_clean_partition = refl

-- a whole table is clear where none of its rows is dirty
whole_tables : (is_clear_of dirty (All 0) ≡ false) × (is_clear_of dirty (All 1) ≡ true)
whole_tables = (refl, refl)

-- account 1 gets dirty with 4, and again with 7 as it goes from Eve to Bob: it keeps its first number, and the partition of Bob has the second one
keeps_first_number : (one two : DirtySince)
    → IsSinceWithRow nothing_since 0 columns (pos 1) (Some (account 1 ann 10)) (Some (account 1 eve 10)) 4 one
    → IsSinceWithRow one 0 columns (pos 1) (Some (account 1 eve 10)) (Some (account 1 bob 10)) 7 two
    → (row_since two 0 (pos 1) ≡ Some 4)
    × (partition_since two (owner_partition eve) ≡ Some 4)
    × (partition_since two (owner_partition bob) ≡ Some 7)
    × (table_since two 0 ≡ Some 4)
keeps_first_number one two first second = (
  second.rows 0 (pos 1) ∙ ap (λ o. since_or o true 7) (first.rows 0 (pos 1)),
  second.partitions (owner_partition eve) ∙ ap (λ o. since_or o true 7) (first.partitions (owner_partition eve)),
  second.partitions (owner_partition bob) ∙ ap (λ o. since_or o true 7) (first.partitions (owner_partition bob)),
  second.tables 0 ∙ ap (λ o. since_or o true 7) (first.tables 0),
)
