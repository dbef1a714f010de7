-- Values and rows as they are printed, in bytes.
use Rattle.std.specs.Prelude.{ℕ, List, [], ◌∷◌, ◌++◌, codes}
use Rattle.std.specs.List.{flat_map}
use Rattle.std.specs.Fmt.{signed_decimal}
use Rattle.tt_values.specs.declared.value.Value.{Value}
use Rattle.tt_values.specs.declared.value.Value.TheVariants as values
use Rattle.tt_values.specs.declared.row.Row.{Row}
use Rattle.tt_grammar.specs.Quoting.{quoted}

-- an Int by its digits, a Text in quotes
abbrev pub value_text : Value → List ℕ
value_text (values.Int n) = signed_decimal n
value_text (values.Text t) = quoted t

-- a further value, behind a comma
abbrev pub further_value : Value → List ℕ
further_value value = codes "," ++ value_text value

-- values with commas between them
abbrev pub values_text : List Value → List ℕ
values_text [] = []
values_text (value ∷ vs) = value_text value ++ flat_map further_value vs

-- a row: its values in brackets
abbrev pub row_text : Row → List ℕ
row_text row = codes "[" ++ (values_text row.values ++ codes "]")
