-- How an opening is taken in a session that is open: it is to ask for what the session has.
use Rattle.std.specs.Prelude.{ℕ, ◌==◌, ◌&&◌, Bool, true, false, not, List}
use Rattle.std.specs.Str.{bytes_eq}
use Rattle.tt_values.specs.declared.table.Column.{Column}
use Rattle.tt_values.specs.declared.table.TableDef.{TableDef}
use Rattle.tt_values.specs.Tables.{is_int}
use Rattle.tt_values.specs.Same.{are_same_by}
use Rattle.tt_db.specs.Database.{Database}
use Rattle.tt_requests.specs.declared.opening.Opening.{Opening}

-- whether both hold, or neither does
abbrev pub are_both : Bool → Bool → Bool
are_both true b = b
are_both false b = not b

-- whether two columns have the same name and kind, and are both partition columns or neither
abbrev pub is_same_column : Column → Column → Bool
is_same_column c d = bytes_eq c.name d.name && are_both (is_int c.kind) (is_int d.kind) && are_both c.partition d.partition

-- whether two tables have the same name and the same columns
abbrev pub is_same_table : List ℕ × TableDef → List ℕ × TableDef → Bool
is_same_table t u = bytes_eq t.0 u.0 && are_same_by is_same_column t.1.columns u.1.columns

-- whether an opening asks for a database: for the same tables in the same order, and for as many closed generations
abbrev pub asks_for : Opening → Database → Bool
asks_for opening db = are_same_by is_same_table opening.catalog db.catalog && (opening.keep == db.limits.keep)
