-- Whether a row matches the conditions of a statement.
use Rattle.std.specs.Prelude.{Bool, false, List, Option, None, Some, slice_get}
use Rattle.std.specs.List.{list_all}
use Rattle.tt_values.specs.declared.value.Value.{Value}
use Rattle.tt_values.specs.declared.row.Row.{Row}
use Rattle.tt_values.specs.declared.statement.Equal.{Equal}
use Rattle.tt_values.specs.declared.comparison.Comparison.{Comparison}
use Rattle.tt_values.specs.Comparison.{compares, is_equality}

-- whether there is a value, and it compares so with v
abbrev pub is_compared : Comparison → Value → Option Value → Bool
is_compared how v None = false
is_compared how v (Some w) = compares how v w

-- whether a condition holds in a row. One on a column past the end of the row doesn't
abbrev pub holds : Equal → Row → Bool
holds q r = is_compared q.how q.value (slice_get r.values q.column)

-- whether a condition fixes the value of its column: only an equality does
abbrev pub equates : Equal → Bool
equates q = is_equality q.how

-- whether every condition holds in the row
abbrev pub matches : List Equal → Row → Bool
matches qs r = list_all (λ q. holds q r) qs
