-- The partitions of a row, column by column.
use Rattle.std.proofs.Common.{◌≡◌, ℕ, zero, suc, Bool, true, false, List, [], ◌∷◌, ◌++◌, drop, Some, slice_get, if◌then◌else◌, refl, sym, ap, ◌∙◌}
use Rattle.tt_values.specs.declared.value.Value.{Value}
use Rattle.tt_values.specs.declared.table.Column.{Column}
use Rattle.tt_parts.specs.Partitions.{is_partition_column, part_at, parts_from}

-- a row without values lies in no partition
pub parts_from-nil : (table i : ℕ) (cs : List Column) → parts_from table i cs [] ≡ []
parts_from-nil table i [] = refl
parts_from-nil table i (c ∷ cs) = refl

-- an item that is put in front where a test holds
pub put_if : {X : Type 0} → (b : Bool) (x : X) (xs : List X) → (if b then x ∷ xs else xs) ≡ (if b then x ∷ [] else []) ++ xs
put_if true x xs = refl
put_if false x xs = refl

-- the partitions from a column on are its own and those of the columns after it
pub parts_from-drop : (table p i : ℕ) (cs : List Column) (vs : List Value) (c : Column) → slice_get cs i ≡ Some c → parts_from table p (drop i cs) (drop i vs) ≡ part_at table p c (slice_get vs i) ++ parts_from table (suc p) (drop (suc i) cs) (drop (suc i) vs)
parts_from-drop table p i [] vs c h = cc
parts_from-drop table p zero (d ∷ cs) [] c h = sym (parts_from-nil table (suc p) cs)
parts_from-drop table p zero (d ∷ cs) (v ∷ vs) c h =
    let same : d ≡ c = cc in
    put_if (is_partition_column p d) (record { table = table; column = p; value = v }) (parts_from table (suc p) cs vs) ∙ ap (λ e. part_at table p e (Some v) ++ parts_from table (suc p) cs vs) same
parts_from-drop table p (suc i) (d ∷ cs) [] c h = parts_from-nil table p (drop i cs) ∙ sym (parts_from-nil table (suc p) (drop (suc i) cs))
parts_from-drop table p (suc i) (d ∷ cs) (v ∷ vs) c h = parts_from-drop table p i cs vs c h
