-- What statements name: tables, columns, values, and conditions on a table.
use Rattle.std.specs.Prelude.{ℕ, ℤ, Bool, true, false, List, [], ◌∷◌, Option, Some, None, option_and_then, if◌then◌else◌, Result, Ok, codes}
use Rattle.serde_json.specs.Data.{Data}
use Rattle.serde_json.specs.Find.{as_number, as_str, as_i64}
use Rattle.tt_values.specs.declared.value.Value.{Value}
use Rattle.tt_values.specs.declared.value.Value.TheVariants as values
use Rattle.tt_values.specs.declared.comparison.Comparison.TheVariants.{Is}
use Rattle.tt_values.specs.declared.statement.Equal.{Equal}
use Rattle.tt_values.specs.Tables.{Tables, table_position, column_position, columns_at}
use Rattle.tt_grammar.specs.declared.fault.DocFault.{DocFault}
use Rattle.tt_grammar.specs.declared.version.Version.{Version}
use Rattle.tt_grammar.specs.declared.version.Version.TheVariants as versions
use Rattle.tt_grammar.specs.Fault.{◌>>=◌, or_refuse, with_path, item_path}
use Rattle.tt_grammar.specs.Decoder.{or_wrong_type, text, array}
use Rattle.tt_grammar.specs.Comparisons.{comparison}

-- a table of the catalog, by its name: its position
abbrev pub table_named : Tables → Data → Result ℕ DocFault
table_named tables v = do
  name ← text v
  or_refuse (codes "no such table") (table_position tables name)

-- the position of a table's column with a name
abbrev pub column_with : Tables → ℕ → List ℕ → Option ℕ
column_with tables table name = option_and_then (λ columns. column_position columns name) (columns_at tables table)

-- a column of a table, by its name: its position
abbrev pub column_named : Tables → ℕ → Data → Result ℕ DocFault
column_named tables table v = do
  name ← text v
  or_refuse (codes "no such column") (column_with tables table name)

-- a text, or else an Int
abbrev pub text_or_int : Option (List ℕ) → Option ℤ → Option Value
text_or_int (Some t) n = Some (values.Text t)
text_or_int None (Some n) = Some (values.Int n)
text_or_int None None = None

-- a value of a row or a condition
abbrev pub value : Data → Result Value DocFault
value v = or_wrong_type (text_or_int (as_str v) (option_and_then as_i64 (as_number v)))

-- the first and the second of two items
abbrev pub two : List Data → Option (Data × Data)
two [] = None
two (d ∷ []) = None
two (d ∷ e ∷ []) = Some (d, e)
two (d ∷ e ∷ f ∷ ds) = None

-- an array of two items
abbrev pub pair : Data → Result (Data × Data) DocFault
pair v = do
  ds ← array v
  or_wrong_type (two ds)

-- whether the conditions of a version may tell how they compare
abbrev pub has_comparisons : Version → Bool
has_comparisons versions.One = false
has_comparisons versions.Two = false
has_comparisons versions.Three = true

-- the column of a condition, how it compares where that is told, and its value, by the condition's items
abbrev pub parts_of_condition : Version → List Data → Option (Data × Option Data × Data)
parts_of_condition version [] = None
parts_of_condition version (d ∷ []) = None
parts_of_condition version (d ∷ e ∷ []) = Some (d, None, e)
parts_of_condition version (d ∷ e ∷ f ∷ []) = if has_comparisons version then Some (d, Some e, f) else None
parts_of_condition version (d ∷ e ∷ f ∷ g ∷ ds) = None

-- a condition on a column: an equality where it isn't told how it compares
abbrev pub condition_on : ℕ → Option Data → Data → Result Equal DocFault
condition_on column None v = do
  value ← with_path (item_path 1) (value v)
  Ok (record { column = column; how = Is; value = value })
condition_on column (Some h) v = do
  how ← with_path (item_path 1) (comparison h)
  value ← with_path (item_path 2) (value v)
  Ok (record { column = column; how = how; value = value })

-- a condition on a table: a column, in version 3 how it compares if that is told, and a value
unfoldable pub condition : Version → Tables → ℕ → Data → Result Equal DocFault
condition version tables table v = do
  ds ← array v
  parts ← or_wrong_type (parts_of_condition version ds)
  column ← with_path (item_path 0) (column_named tables table parts.0)
  condition_on column parts.1 parts.2
