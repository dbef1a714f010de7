-- The changes of an update, and a row after them.
use Rattle.std.specs.Prelude.{ℕ, suc, ℤ, ◌+ℤ◌, ◌==◌, List, [], ◌∷◌, if◌then◌else◌}
use Rattle.std.specs.Int.{saturate_signed, w64}
use Rattle.tt_values.specs.declared.value.Value.{Value}
use Rattle.tt_values.specs.declared.value.Value.TheVariants as values
use Rattle.tt_values.specs.declared.row.Row.{Row}
use Rattle.tt_values.specs.declared.statement.Change.{Change}
use Rattle.tt_values.specs.declared.statement.Change.TheVariants as changes

-- the position of the column of a change
abbrev pub column_of : Change → ℕ
column_of (changes.Set column value) = column
column_of (changes.Add column by) = column

-- the sum, saturated at the bounds of an `i64`. A text stays as it is
abbrev pub value_plus : Value → ℤ → Value
value_plus (values.Int n) by = values.Int (saturate_signed w64 (n +ℤ by))
value_plus (values.Text t) by = values.Text t

-- the value of a column after its change
abbrev pub value_after : Change → Value → Value
value_after (changes.Set column value) v = value
value_after (changes.Add column by) v = value_plus v by

-- the value of a column after the first change of it, if there is one
abbrev pub changed_value : List Change → ℕ → Value → Value
changed_value [] column v = v
changed_value (c ∷ cs) column v = if column_of c == column then value_after c v else changed_value cs column v

-- the values from a column on, after the changes
abbrev pub changed_values : List Change → ℕ → List Value → List Value
changed_values cs column [] = []
changed_values cs column (v ∷ vs) = changed_value cs column v ∷ changed_values cs (suc column) vs

-- a row after the changes
abbrev pub changed : Row → List Change → Row
changed r cs = record { values = changed_values cs 0 r.values }
