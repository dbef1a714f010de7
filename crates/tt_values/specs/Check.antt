-- The faults of statements and of actions.
use Rattle.std.specs.Prelude.{Bool, false, not, ◌||◌, nat_lt, nat_le, ◌==◌, List, [], ◌∷◌, length, Option, None, Some, IsSome, slice_get, if◌then◌else◌}
use Rattle.std.specs.List.{list_any, zip}
use Rattle.std.specs.Option.{option_or}
use Rattle.tt_values.specs.Limits.{max_equals, max_writes}
use Rattle.tt_values.specs.declared.value.Value.{Value}
use Rattle.tt_values.specs.declared.table.Column.{Column}
use Rattle.tt_values.specs.declared.statement.Equal.{Equal}
use Rattle.tt_values.specs.declared.statement.Change.{Change}
use Rattle.tt_values.specs.declared.statement.Change.TheVariants as changes
use Rattle.tt_values.specs.declared.statement.Select.{Select}
use Rattle.tt_values.specs.declared.statement.Write.{Write}
use Rattle.tt_values.specs.declared.statement.Write.TheVariants.{Insert, Update, Delete}
use Rattle.tt_values.specs.declared.checking.CheckError.{CheckError}
use Rattle.tt_values.specs.declared.checking.CheckError.TheVariants as errors
use Rattle.tt_values.specs.Faults.{first_fault}
use Rattle.tt_values.specs.Value.{is_of_kind, is_long_text}
use Rattle.tt_values.specs.Row.{first_int}
use Rattle.tt_values.specs.Change.{column_of}
use Rattle.tt_values.specs.Tables.{Tables, columns_at, is_int}

-- whether there is a column, and it is of another kind than the value
abbrev pub is_wrong_kind : Option Column → Value → Bool
is_wrong_kind None v = false
is_wrong_kind (Some c) v = not (is_of_kind c.kind v)

-- the tests of a row, in order. Kinds are tested at the positions that row and table both have
abbrev pub row_tests : List Column → List Value → List (Bool × CheckError)
row_tests columns vs =
    (list_any (λ p. not (is_of_kind p.0.kind p.1)) (zip columns vs), errors.WrongKind)
    ∷ (not (length vs == length columns), errors.WrongWidth)
    ∷ (list_any is_long_text vs, errors.TextTooLong)
    ∷ []

-- whether a condition is on a column past the last
abbrev pub has_no_column : List Column → List Equal → Bool
has_no_column columns qs = list_any (λ q. nat_le (length columns) q.column) qs

-- whether a condition is on a column of another kind than its value
abbrev pub has_wrong_kind : List Column → List Equal → Bool
has_wrong_kind columns qs = list_any (λ q. is_wrong_kind (slice_get columns q.column) q.value) qs

-- whether a condition has too long a text
abbrev pub has_long_text : List Equal → Bool
has_long_text qs = list_any (λ q. is_long_text q.value) qs

-- whether there are too many conditions
abbrev pub has_too_many : List Equal → Bool
has_too_many qs = nat_lt max_equals (length qs)

-- the tests of the conditions of a statement, in order
abbrev pub equals_tests : List Column → List Equal → List (Bool × CheckError)
equals_tests columns qs =
    (has_no_column columns qs, errors.NoColumn)
    ∷ (has_wrong_kind columns qs, errors.WrongKind)
    ∷ (has_long_text qs, errors.TextTooLong)
    ∷ (has_too_many qs, errors.TooManyEquals)
    ∷ []

-- whether a change is of a column past the last
abbrev pub changes_no_column : List Column → List Change → Bool
changes_no_column columns cs = list_any (λ c. nat_le (length columns) (column_of c)) cs

-- whether a change sets a value of another kind than its column's, or adds to a Text
abbrev pub is_wrong_change : Option Column → Change → Bool
is_wrong_change None c = false
is_wrong_change (Some d) (changes.Set column value) = not (is_of_kind d.kind value)
is_wrong_change (Some d) (changes.Add column by) = not (is_int d.kind)

abbrev pub changes_wrong_kind : List Column → List Change → Bool
changes_wrong_kind columns cs = list_any (λ c. is_wrong_change (slice_get columns (column_of c)) c) cs

-- whether a change sets too long a text
abbrev pub is_long_change : Change → Bool
is_long_change (changes.Set column value) = is_long_text value
is_long_change (changes.Add column by) = false

abbrev pub sets_long_text : List Change → Bool
sets_long_text cs = list_any is_long_change cs

-- whether a change is of the first column, which has the key
abbrev pub changes_key : List Change → Bool
changes_key cs = list_any (λ c. column_of c == 0) cs

-- whether two changes are of the same column
abbrev pub changes_twice : List Change → Bool
changes_twice [] = false
changes_twice (c ∷ cs) = list_any (λ d. column_of c == column_of d) cs || changes_twice cs

-- the tests of an update, in order
abbrev pub update_tests : List Column → List Change → List Equal → List (Bool × CheckError)
update_tests columns cs qs =
    (changes_no_column columns cs || has_no_column columns qs, errors.NoColumn)
    ∷ (changes_wrong_kind columns cs || has_wrong_kind columns qs, errors.WrongKind)
    ∷ (sets_long_text cs || has_long_text qs, errors.TextTooLong)
    ∷ (changes_key cs, errors.SetsKey)
    ∷ (changes_twice cs, errors.SameColumnTwice)
    ∷ (has_too_many qs, errors.TooManyEquals)
    ∷ []

-- the first fault of a statement on a table with these columns, or without a table
abbrev pub fault_on : Option (List Column) → (List Column → List (Bool × CheckError)) → Option CheckError
fault_on None tests = Some errors.NoTable
fault_on (Some columns) tests = first_fault (tests columns)

-- the first fault of a write
abbrev pub write_fault : Tables → Write → Option CheckError
write_fault tables (Insert table row) = fault_on (columns_at tables table) (λ columns. row_tests columns row.values)
write_fault tables (Update table cs qs) = fault_on (columns_at tables table) (λ columns. update_tests columns cs qs)
write_fault tables (Delete table qs) = fault_on (columns_at tables table) (λ columns. equals_tests columns qs)

-- the fault of the first write that has one
abbrev pub first_write_fault : Tables → List Write → Option CheckError
first_write_fault tables [] = None
first_write_fault tables (w ∷ ws) = option_or (write_fault tables w) (first_write_fault tables ws)

-- the first fault of an action. Its writes are counted before any of them is looked at
abbrev pub action_fault : Tables → List Write → Option CheckError
action_fault tables ws = if nat_lt max_writes (length ws) then Some errors.TooManyWrites else first_write_fault tables ws

-- the first fault of a select
abbrev pub select_fault : Tables → Select → Option CheckError
select_fault tables s = fault_on (columns_at tables s.table) (λ columns. equals_tests columns s.equals)

-- if the write is an insert, its row has a key
abbrev pub HasKey : Write → Type 0
HasKey (Insert table row) = IsSome (first_int row.values)
HasKey (Update table cs qs) = Unit {0}
HasKey (Delete table qs) = Unit {0}
