-- Where a text keeps its bytes.
use Rattle.std.specs.Prelude.{List, ℕ}
use Rattle.std.specs.Arc.{arc_value}
use Rattle.std.specs.String.{string_bytes}
use Rattle.tt_values.specs.declared.text.ShortOrLong.{ShortOrLong}
use Rattle.tt_values.specs.declared.text.ShortOrLong.TheVariants.{Short, Long}

-- the bytes of a short text, or of a long one
abbrev pub text_view : ShortOrLong → List ℕ
text_view (Short bytes) = bytes
text_view (Long owner) = string_bytes (arc_value owner)
