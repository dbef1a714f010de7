-- The partitions of accounts, and of writes on accounts.
use Rattle.std.proofs.Common.{◌≡◌, ℕ, pos, true, List, [], ◌∷◌, codes, refl}
use Rattle.tt_values.specs.declared.value.Kind.TheVariants as kinds
use Rattle.tt_values.specs.declared.value.Value.TheVariants as values
use Rattle.tt_values.specs.declared.table.Column.{Column}
use Rattle.tt_values.specs.declared.comparison.Comparison.TheVariants.{IsNot, AtMost, Above, Below}
use Rattle.tt_values.specs.declared.statement.Equal.{Equal}
use Rattle.tt_values.proofs.worked_rows.Accounts.{columns, ann, bob, account, id_compares, owner_compares, owner_is, of_balance, balance_is, balance_to, insert, update, delete}
use Rattle.tt_parts.specs.declared.partition.Partition.{Partition}
use Rattle.tt_parts.specs.declared.partition.Reads.{Reads}
use Rattle.tt_parts.specs.declared.partition.Reads.TheVariants.{All, Equated}
use Rattle.tt_parts.specs.Partitions.{parts_of, key_partition, reads_of}

-- the first column is declared as a partition column too
abbrev declared_key : List Column
declared_key = record { name = codes "id"; kind = kinds.Int; partition = true } ∷ record { name = codes "owner"; kind = kinds.Text; partition = true } ∷ []

abbrev id_partition : ℕ → Partition
id_partition id = key_partition 0 (pos id)

abbrev owner_partition : List ℕ → Partition
owner_partition owner = record { table = 0; column = 1; value = values.Text owner }

-- what an update with these equalities reads
abbrev update_reads : List Equal → Reads
update_reads equals = reads_of columns (update (balance_to 0) equals)

-- a row lies in the partitions of its key and its owner, and in the former once where the key is declared
parts_of_row : (parts_of 0 columns (account 1 ann 10) ≡ id_partition 1 ∷ owner_partition ann ∷ []) × (parts_of 0 declared_key (account 1 ann 10) ≡ id_partition 1 ∷ owner_partition ann ∷ [])
parts_of_row = (refl, refl)

-- only the equality on the owner has a partition
owner_and_balance : update_reads (owner_is ann ∷ balance_is 3 ∷ []) ≡ Equated (owner_partition ann ∷ [])
owner_and_balance = refl

-- without one the whole table is read
only_balance : (update_reads (of_balance 3) ≡ All 0) × (reads_of columns (delete []) ≡ All 0)
only_balance = (refl, refl)

-- each equality counts, in their order
two_owners : update_reads (owner_is ann ∷ owner_is bob ∷ owner_is ann ∷ []) ≡ Equated (owner_partition ann ∷ owner_partition bob ∷ owner_partition ann ∷ [])
two_owners = refl

-- a condition that isn't an equality has no partition, also where it leaves one value
compared : (update_reads (owner_compares IsNot ann ∷ id_compares AtMost 1 ∷ []) ≡ All 0) × (update_reads (id_compares Above 1 ∷ owner_is ann ∷ id_compares Below 3 ∷ []) ≡ Equated (owner_partition ann ∷ []))
compared = (refl, refl)

-- an insert reads the partition of its key
key_of_insert : reads_of columns (insert 4 bob 0) ≡ Equated (id_partition 4 ∷ [])
key_of_insert = refl
