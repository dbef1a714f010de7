-- The faults of statements.
use Rattle.std.proofs.Common.{◌≡◌, pos, [], ◌∷◌, replicate, None, Some, refl}
use Rattle.tt_values.specs.declared.comparison.Comparison.TheVariants.{Is}
use Rattle.tt_values.specs.declared.value.Value.TheVariants as values
use Rattle.tt_values.specs.declared.statement.Change.TheVariants.{Set, Add}
use Rattle.tt_values.specs.declared.statement.Write.TheVariants.{Insert, Update, Delete}
use Rattle.tt_values.specs.declared.checking.CheckError.TheVariants as errors
use Rattle.tt_values.specs.Check.{write_fault, select_fault}
use Rattle.tt_values.proofs.worked_rows.Accounts.{tables, ann, zed, narrow_account, id_is, of_owner, balance_to, balance_by, insert, update, delete, select}

writes_without_fault : (write_fault tables (insert 1 ann 10) ≡ None) × (write_fault tables (update (balance_by 7) (of_owner ann)) ≡ None) × (write_fault tables (delete []) ≡ None)
writes_without_fault = (refl, refl, refl)

no_such_table : write_fault tables (Delete 1 []) ≡ Some errors.NoTable
no_such_table = refl

-- kinds are looked at before the width
narrow_row : write_fault tables (Insert 0 (narrow_account 1 ann)) ≡ Some errors.WrongWidth
narrow_row = refl

narrow_row_with_a_text_key : write_fault tables (Insert 0 (record { values = values.Text zed ∷ values.Text ann ∷ [] })) ≡ Some errors.WrongKind
narrow_row_with_a_text_key = refl

changes_of_the_key :
    (write_fault tables (update (Set 0 (values.Int (pos 2))) []) ≡ Some errors.SetsKey)
    × (write_fault tables (update (Add 0 (pos 1)) []) ≡ Some errors.SetsKey)
changes_of_the_key = (refl, refl)

sum_with_a_text : write_fault tables (update (Add 1 (pos 1)) []) ≡ Some errors.WrongKind
sum_with_a_text = refl

two_changes_of_a_column : write_fault tables (Update 0 (balance_to 1 ∷ balance_by 1 ∷ []) []) ≡ Some errors.SameColumnTwice
two_changes_of_a_column = refl

-- columns are looked for before kinds, in the equalities too
column_before_kind : write_fault tables (update (Add 1 (pos 1)) (record { column = 3; how = Is; value = values.Int (pos 1) } ∷ [])) ≡ Some errors.NoColumn
column_before_kind = refl

-- 32 equalities are allowed, and 33 are too many
equalities_of_a_select : (select_fault tables (select (replicate 32 (id_is 1))) ≡ None) × (select_fault tables (select (replicate 33 (id_is 1))) ≡ Some errors.TooManyEquals)
equalities_of_a_select = (refl, refl)

equalities_of_writes :
    (write_fault tables (Update 0 [] (replicate 33 (id_is 1))) ≡ Some errors.TooManyEquals)
    × (write_fault tables (delete (replicate 33 (id_is 1))) ≡ Some errors.TooManyEquals)
equalities_of_writes = (refl, refl)

-- a text of 1,024 bytes is allowed, and one of 1,025 is too long
texts :
    (write_fault tables (update (Set 1 (values.Text (replicate 1024 97))) []) ≡ None)
    × (write_fault tables (update (Set 1 (values.Text (replicate 1025 97))) []) ≡ Some errors.TextTooLong)
    × (select_fault tables (select (record { column = 1; how = Is; value = values.Text (replicate 1025 97) } ∷ [])) ≡ Some errors.TextTooLong)
texts = (refl, refl, refl)
