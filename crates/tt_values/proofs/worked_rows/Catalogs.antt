-- The faults of tables that are added, at the limits.
use Rattle.std.proofs.Common.{◌≡◌, ℕ, zero, suc, true, false, List, [], ◌∷◌, codes, replicate, None, Some, refl}
use Rattle.tt_values.specs.declared.value.Kind.TheVariants as kinds
use Rattle.tt_values.specs.declared.table.Column.{Column}
use Rattle.tt_values.specs.declared.table.TableDef.{TableDef}
use Rattle.tt_values.specs.declared.catalog.CatalogError.TheVariants as errors
use Rattle.tt_values.specs.Tables.{Tables, is_name}
use Rattle.tt_values.specs.Catalog.{table_fault}
use Rattle.tt_values.proofs.worked_rows.Accounts.{tables}

-- Int columns with the names "a", "aa" and so on
abbrev wide : ℕ → List Column
wide zero = []
wide (suc n) = record { name = replicate (suc n) 97; kind = kinds.Int; partition = false } ∷ wide n

abbrev table_of_width : ℕ → TableDef
table_of_width n = record { columns = wide n }

abbrev full : ℕ → Tables
full n = replicate n (codes "note", table_of_width 1)

further_table : table_fault tables (codes "note") (table_of_width 1) ≡ None
further_table = refl

same_name : table_fault tables (codes "acct") (table_of_width 1) ≡ Some errors.SameTable
same_name = refl

name_with_a_space : table_fault tables (codes "a b") (table_of_width 1) ≡ Some errors.BadName
name_with_a_space = refl

no_columns : table_fault tables (codes "note") (table_of_width 0) ≡ Some errors.NoColumns
no_columns = refl

widths : (table_fault [] (codes "wide") (table_of_width 32) ≡ None) × (table_fault [] (codes "wide") (table_of_width 33) ≡ Some errors.TooMany)
widths = (refl, refl)

numbers_of_tables : (table_fault (full 63) (codes "last") (table_of_width 1) ≡ None) × (table_fault (full 64) (codes "last") (table_of_width 1) ≡ Some errors.TooMany)
numbers_of_tables = (refl, refl)

lengths_of_names : (is_name [] ≡ false) × (is_name (replicate 64 97) ≡ true) × (is_name (replicate 65 97) ≡ false)
lengths_of_names = (refl, refl, refl)
