-- Tables and their columns, by name and by position.
use Rattle.std.specs.Prelude.{◌≡◌, ℕ, ◌≤◌, ◌^◌, if◌then◌else◌, nat_lt, Bool, true, false, ◌&&◌, ◌||◌, nat_le, ◌==◌, List, [], ◌∷◌, length, Option, None, Some, IsTrue, All, slice_get, position}
use Rattle.std.specs.List.{list_all, list_any}
use Rattle.std.specs.Option.{option_map}
use Rattle.std.specs.Str.{bytes_eq}
use Rattle.tt_values.specs.Limits.{max_name_bytes, max_tables, max_columns}
use Rattle.tt_values.specs.declared.value.Kind.{Kind}
use Rattle.tt_values.specs.declared.value.Kind.TheVariants as kinds
use Rattle.tt_values.specs.declared.table.Column.{Column}
use Rattle.tt_values.specs.declared.table.TableDef.{TableDef}

-- the tables of a catalog with their names, in order of declaration
abbrev pub Tables : Type 0
Tables = List (List ℕ × TableDef)

-- the position of the table with this name
abbrev pub table_position : Tables → List ℕ → Option ℕ
table_position tables name = position (λ t. bytes_eq name t.0) tables

-- the position of the first column with this name
abbrev pub column_position : List Column → List ℕ → Option ℕ
column_position columns name = position (λ c. bytes_eq name c.name) columns

-- the position, if it fits a `u16`
abbrev pub position_as_u16 : Option ℕ → Option ℕ
position_as_u16 None = None
position_as_u16 (Some i) = if nat_lt i (2 ^ 16) then Some i else None

-- the columns of the table at a position
abbrev pub columns_at : Tables → ℕ → Option (List Column)
columns_at tables table = option_map (λ t. t.1.columns) (slice_get tables table)

-- whether a byte is an ASCII letter, a digit or an underscore
abbrev pub is_name_byte : ℕ → Bool
is_name_byte b = (nat_le 97 b && nat_le b 122) || (nat_le 65 b && nat_le b 90) || (nat_le 48 b && nat_le b 57) || (b == 95)

-- whether a text is a valid name
abbrev pub is_name : List ℕ → Bool
is_name name = nat_le 1 (length name) && nat_le (length name) max_name_bytes && list_all is_name_byte name

-- whether a kind is Int
abbrev pub is_int : Kind → Bool
is_int kinds.Int = true
is_int kinds.Text = false

-- whether there is a first column, of kind Int
abbrev pub is_key_int : List Column → Bool
is_key_int [] = false
is_key_int (c ∷ cs) = is_int c.kind

-- whether two columns have the same name
abbrev pub has_same_name : List Column → Bool
has_same_name [] = false
has_same_name (c ∷ cs) = list_any (λ d. bytes_eq c.name d.name) cs || has_same_name cs

-- whether two tables have the same name
abbrev pub has_same_table : Tables → Bool
has_same_table [] = false
has_same_table (t ∷ ts) = list_any (λ u. bytes_eq t.0 u.0) ts || has_same_table ts

-- what holds of every table of a catalog
pub record IsTable (def : TableDef) : Type 0 where
  pub key_is_int : IsTrue (is_key_int def.columns)
  pub few_columns : length def.columns ≤ max_columns
  pub columns_are_named : IsTrue (list_all (λ c. is_name c.name) def.columns)
  pub names_differ : has_same_name def.columns ≡ false

-- what holds of every catalog
pub record IsCatalog (tables : Tables) : Type 0 where
  pub few_tables : length tables ≤ max_tables
  pub sound : All (λ t. IsTable t.1) tables
  pub tables_are_named : All (λ t. IsTrue (is_name t.0)) tables
  pub names_differ : has_same_table tables ≡ false
