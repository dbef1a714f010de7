-- Tables, as documents and openings declare them.
use Rattle.std.specs.Prelude.{ℕ, false, List, [], ◌∷◌, ◌++◌, Option, Some, None, unwrap_or, if◌then◌else◌, Result, Ok, codes}
use Rattle.std.specs.Str.{bytes_eq}
use Rattle.serde_json.specs.Data.{Data}
use Rattle.tt_values.specs.declared.value.Kind.{Kind}
use Rattle.tt_values.specs.declared.value.Kind.TheVariants as kinds
use Rattle.tt_values.specs.declared.table.Column.{Column}
use Rattle.tt_values.specs.declared.table.TableDef.{TableDef}
use Rattle.tt_values.specs.Tables.{Tables}
use Rattle.tt_values.specs.Catalog.{table_fault}
use Rattle.tt_grammar.specs.declared.fault.DocFault.{DocFault}
use Rattle.tt_grammar.specs.Fault.{◌>>=◌, or_refuse}
use Rattle.tt_grammar.specs.Decoder.{object, text, flag, array, member, optional}
use Rattle.tt_grammar.specs.Arrays.{fold_items, array_of}
use Rattle.tt_grammar.specs.Members.{is_one_of, no_members_but}
use Rattle.tt_grammar.specs.Causes.{judge, cause_of_catalog}

-- the kind of column that a text names
abbrev pub kind_named : List ℕ → Option Kind
kind_named name = if bytes_eq name (codes "int") then Some kinds.Int else (if bytes_eq name (codes "text") then Some kinds.Text else None)

-- a kind of column
abbrev pub kind : Data → Result Kind DocFault
kind v = do
  name ← text v
  or_refuse (codes "out of range") (kind_named name)

-- a column: its name, its kind, and whether it's a partition column, which it isn't where that is left out
unfoldable pub column : Data → Result Column DocFault
column v = do
  _ ← object v
  name ← member (codes "name") text v
  kind ← member (codes "kind") kind v
  partition ← optional (codes "partition") flag v
  _ ← no_members_but (is_one_of (codes "kind" ∷ codes "name" ∷ codes "partition" ∷ [])) v
  Ok (record { name = name; kind = kind; partition = unwrap_or partition false })

-- the tables with one more at their end, or the fault for which a catalog refuses it
abbrev pub with_table : Tables → List ℕ → TableDef → Result Tables DocFault
with_table tables name def = do
  _ ← judge cause_of_catalog (table_fault tables name def)
  Ok (tables ++ (name, def) ∷ [])

-- a table: its name and its columns
unfoldable pub table_after : Tables → Data → Result Tables DocFault
table_after tables v = do
  _ ← object v
  name ← member (codes "name") text v
  columns ← member (codes "columns") (array_of column) v
  _ ← no_members_but (is_one_of (codes "columns" ∷ codes "name" ∷ [])) v
  with_table tables name (record { columns = columns })

-- the catalog that the tables make, each one judged before the next is read
abbrev pub catalog : Data → Result Tables DocFault
catalog v = do
  ds ← array v
  fold_items table_after 0 [] ds
