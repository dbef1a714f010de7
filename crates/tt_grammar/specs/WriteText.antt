-- Writes, actions and tables as they are printed: as the grammar of documents writes them, each member in its place, and each table and column by its name.
use Rattle.std.specs.Prelude.{ℕ, Bool, true, false, List, [], ◌∷◌, map, Option, Some, None, unwrap_or, option_and_then, slice_get, codes}
use Rattle.std.specs.Option.{option_map}
use Rattle.std.specs.Fmt.{signed_decimal}
use Rattle.tt_values.specs.declared.value.Kind.{Kind}
use Rattle.tt_values.specs.declared.value.Kind.TheVariants as kinds
use Rattle.tt_values.specs.declared.table.Column.{Column}
use Rattle.tt_values.specs.declared.table.TableDef.{TableDef}
use Rattle.tt_values.specs.declared.statement.Change.{Change}
use Rattle.tt_values.specs.declared.statement.Change.TheVariants.{Set, Add}
use Rattle.tt_values.specs.declared.statement.Equal.{Equal}
use Rattle.tt_values.specs.declared.statement.Write.{Write}
use Rattle.tt_values.specs.declared.statement.Write.TheVariants.{Insert, Update, Delete}
use Rattle.tt_values.specs.declared.action.Action.{Action}
use Rattle.tt_values.specs.Tables.{Tables, columns_at}
use Rattle.tt_grammar.specs.Quoting.{quoted}
use Rattle.tt_grammar.specs.Printing.{value_text, row_text}
use Rattle.tt_grammar.specs.Comparisons.{items_of_condition}
use Rattle.tt_grammar.specs.JsonText.{Member, array_text, object_text, flag_text}

-- the name of the table at a position, which is empty where there is no table
abbrev pub table_name : Tables → ℕ → List ℕ
table_name tables table = unwrap_or (option_map (λ t. t.0) (slice_get tables table)) []

-- the column at a position of a table, if there is one
abbrev pub column_at : Tables → ℕ → ℕ → Option Column
column_at tables table column = option_and_then (λ columns. slice_get columns column) (columns_at tables table)

-- the name of the column at a position of a table, which is empty where there is no column
abbrev pub column_name : Tables → ℕ → ℕ → List ℕ
column_name tables table column = unwrap_or (option_map (λ c. c.name) (column_at tables table column)) []

-- a change of a column: what it does, the column, and its operand
abbrev pub column_change_text : Tables → ℕ → Change → List ℕ
column_change_text tables table (Set column value) =
    array_text (quoted (codes "set") ∷ quoted (column_name tables table column) ∷ value_text value ∷ [])
column_change_text tables table (Add column by) =
    array_text (quoted (codes "add") ∷ quoted (column_name tables table column) ∷ signed_decimal by ∷ [])

-- a condition: the column, how it compares unless it is an equality, and its value
abbrev pub equal_text : Tables → ℕ → Equal → List ℕ
equal_text tables table equal =
    array_text (items_of_condition equal.how (quoted (column_name tables table equal.column)) (value_text equal.value))

-- the conditions of a write
abbrev pub equals_member : Tables → ℕ → List Equal → Member
equals_member tables table equals = (codes "where", array_text (map (equal_text tables table) equals))

-- the members of a write: its table, then its row, or its changes and its conditions
abbrev pub write_members : Tables → Write → List Member
write_members tables (Insert table row) = (codes "insert", quoted (table_name tables table)) ∷ (codes "row", row_text row) ∷ []
write_members tables (Update table changes equals) =
    (codes "update", quoted (table_name tables table))
    ∷ (codes "change", array_text (map (column_change_text tables table) changes))
    ∷ equals_member tables table equals
    ∷ []
write_members tables (Delete table equals) =
    (codes "delete", quoted (table_name tables table)) ∷ equals_member tables table equals ∷ []

-- a write
abbrev pub write_text : Tables → Write → List ℕ
write_text tables w = object_text (write_members tables w)

-- some writes
abbrev pub writes_text : Tables → List Write → List ℕ
writes_text tables ws = array_text (map (write_text tables) ws)

-- that an action is whole, as a member of this name. One that isn't has no such member
abbrev pub whole_members : List ℕ → Bool → List Member
whole_members name false = []
whole_members name true = (name, flag_text true) ∷ []

-- an action, as members of these names: its writes, and whether it is whole
abbrev pub named_action_members : List ℕ → List ℕ → Tables → Action → List Member
named_action_members name whole_name tables action = (name, writes_text tables action.writes) ∷ whole_members whole_name action.whole

-- an action, as the members do and whole
abbrev pub action_members : Tables → Action → List Member
action_members tables action = named_action_members (codes "do") (codes "whole") tables action

-- the same, or a do that is null where there is no action
abbrev pub action_members_or_null : Tables → Option Action → List Member
action_members_or_null tables None = (codes "do", codes "null") ∷ []
action_members_or_null tables (Some action) = action_members tables action

-- the name of a kind of column
abbrev pub kind_name : Kind → List ℕ
kind_name kinds.Int = codes "int"
kind_name kinds.Text = codes "text"

-- a column: its name, its kind, and whether it is a partition column
abbrev pub column_text : Column → List ℕ
column_text column = object_text (
    (codes "name", quoted column.name)
    ∷ (codes "kind", quoted (kind_name column.kind))
    ∷ (codes "partition", flag_text column.partition)
    ∷ [])

-- a table: its name and its columns
abbrev pub table_text : List ℕ × TableDef → List ℕ
table_text table = object_text ((codes "name", quoted table.0) ∷ (codes "columns", array_text (map column_text table.1.columns)) ∷ [])

-- the tables of a catalog, in order of declaration
abbrev pub tables_text : Tables → List ℕ
tables_text tables = array_text (map table_text tables)
