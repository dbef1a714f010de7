-- How the value of a row compares with that of a condition.
use Rattle.std.specs.Prelude.{Bool, true, false, not, ◌||◌}
use Rattle.tt_values.specs.declared.comparison.Comparison.{Comparison}
use Rattle.tt_values.specs.declared.comparison.Comparison.TheVariants.{Is, IsNot, Below, AtMost, Above, AtLeast}
use Rattle.tt_values.specs.declared.value.Value.{Value}
use Rattle.tt_values.specs.Value.{is_same, is_less}

-- whether the value w of a row compares so with the value v of a condition
abbrev pub compares : Comparison → Value → Value → Bool
compares Is v w = is_same v w
compares IsNot v w = not (is_same v w)
compares Below v w = is_less w v
compares AtMost v w = is_less w v || is_same v w
compares Above v w = is_less v w
compares AtLeast v w = is_less v w || is_same v w

-- whether only the same value compares so
abbrev pub is_equality : Comparison → Bool
is_equality Is = true
is_equality IsNot = false
is_equality Below = false
is_equality AtMost = false
is_equality Above = false
is_equality AtLeast = false
