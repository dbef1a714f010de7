-- Rows and their keys.
use Rattle.std.specs.Prelude.{ℤ, pos, List, [], ◌∷◌, Option, None, Some}
use Rattle.std.specs.Option.{unwrap_or}
use Rattle.tt_values.specs.declared.value.Value.{Value}
use Rattle.tt_values.specs.declared.value.Value.TheVariants as values
use Rattle.tt_values.specs.declared.row.Row.{Row}

-- the first value, if it is an Int
abbrev pub first_int : List Value → Option ℤ
first_int [] = None
first_int (values.Int n ∷ vs) = Some n
first_int (values.Text t ∷ vs) = None

-- the key of a row: its first value. Rows that pass `check` have one; for others it is 0
abbrev pub key_of : Row → ℤ
key_of r = unwrap_or (first_int r.values) (pos 0)
