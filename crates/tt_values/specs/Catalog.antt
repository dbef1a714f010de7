-- The faults of a table that is added to a catalog.
use Rattle.std.specs.Prelude.{ℕ, Bool, not, ◌&&◌, ◌||◌, nat_lt, nat_le, ◌==◌, List, [], ◌∷◌, length, Option, None, Some}
use Rattle.std.specs.List.{list_all, list_any}
use Rattle.std.specs.Str.{bytes_eq}
use Rattle.tt_values.specs.Limits.{max_tables, max_columns}
use Rattle.tt_values.specs.declared.table.TableDef.{TableDef}
use Rattle.tt_values.specs.declared.catalog.CatalogError.{CatalogError}
use Rattle.tt_values.specs.declared.catalog.CatalogError.TheVariants as errors
use Rattle.tt_values.specs.Faults.{first_fault}
use Rattle.tt_values.specs.Tables.{Tables, is_name, is_key_int, has_same_name}

-- whether the catalog is full, or the table has too many columns
abbrev pub has_no_room : Tables → TableDef → Bool
has_no_room tables def = nat_le max_tables (length tables) || nat_lt max_columns (length def.columns)

-- the tests of a table that is added, in order
abbrev pub table_tests : Tables → List ℕ → TableDef → List (Bool × CatalogError)
table_tests tables name def =
    (not (is_name name && list_all (λ c. is_name c.name) def.columns), errors.BadName)
    ∷ (list_any (λ t. bytes_eq name t.0) tables, errors.SameTable)
    ∷ (length def.columns == 0, errors.NoColumns)
    ∷ (not (is_key_int def.columns), errors.KeyNotInt)
    ∷ (has_same_name def.columns, errors.SameColumn)
    ∷ (has_no_room tables def, errors.TooMany)
    ∷ []

-- the first fault of a table that is added
abbrev pub table_fault : Tables → List ℕ → TableDef → Option CatalogError
table_fault tables name def = first_fault (table_tests tables name def)

-- the fault that an error reports. `Memory` reports none
abbrev pub fault_of_error : CatalogError → Option CatalogError
fault_of_error errors.Memory = None
fault_of_error e = Some e
