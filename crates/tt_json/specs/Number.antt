-- The number that a `Number` holds.
use Rattle.serde_json.specs.Data as spec
use Rattle.tt_json.specs.declared.number.Number.{Number}
use Rattle.tt_json.specs.declared.number.Number.TheVariants.{Unsigned, Negative, Float}

abbrev pub number_view : Number → spec.Num
number_view (Unsigned n) = spec.unsigned n
number_view (Negative z) = spec.negative z
number_view (Float x) = spec.float x
