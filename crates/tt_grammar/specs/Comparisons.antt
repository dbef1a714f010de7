-- How conditions compare, as it is written.
use Rattle.std.specs.Prelude.{ℕ, List, [], ◌∷◌, ◌++◌, Option, Some, None, if◌then◌else◌, Result, codes}
use Rattle.std.specs.Str.{bytes_eq}
use Rattle.serde_json.specs.Data.{Data}
use Rattle.tt_values.specs.declared.comparison.Comparison.{Comparison}
use Rattle.tt_values.specs.declared.comparison.Comparison.TheVariants.{Is, IsNot, Below, AtMost, Above, AtLeast}
use Rattle.tt_grammar.specs.declared.fault.DocFault.{DocFault}
use Rattle.tt_grammar.specs.Fault.{◌>>=◌, or_refuse}
use Rattle.tt_grammar.specs.Decoder.{text}
use Rattle.tt_grammar.specs.Quoting.{quoted}

-- how a condition compares, by its sign
abbrev pub comparison_named : List ℕ → Option Comparison
comparison_named sign =
    if bytes_eq sign (codes "=") then Some Is else (
    if bytes_eq sign (codes "!=") then Some IsNot else (
    if bytes_eq sign (codes "<") then Some Below else (
    if bytes_eq sign (codes "<=") then Some AtMost else (
    if bytes_eq sign (codes ">") then Some Above else (
    if bytes_eq sign (codes ">=") then Some AtLeast else None)))))

-- how a condition compares
abbrev pub comparison : Data → Result Comparison DocFault
comparison v = do
  sign ← text v
  or_refuse (codes "out of range") (comparison_named sign)

-- the sign by which a condition compares
abbrev pub sign_of : Comparison → List ℕ
sign_of Is = codes "="
sign_of IsNot = codes "!="
sign_of Below = codes "<"
sign_of AtMost = codes "<="
sign_of Above = codes ">"
sign_of AtLeast = codes ">="

-- the items of a printed condition, by the texts of its column and its value: an equality has no sign
abbrev pub items_of_condition : Comparison → List ℕ → List ℕ → List (List ℕ)
items_of_condition Is column value = column ∷ value ∷ []
items_of_condition how column value = column ∷ quoted (sign_of how) ∷ value ∷ []

-- what is printed between the two
abbrev pub before_value : Comparison → List ℕ
before_value Is = codes ","
before_value how = codes "," ++ (quoted (sign_of how) ++ codes ",")
