-- Values.
use Rattle.std.specs.Prelude.{Bool, true, false, nat_lt, int_lt, length}
use Rattle.std.specs.Ordering.{int_eq, nat_cmp, is_lt}
use Rattle.std.specs.Cmp.Lexicographic.{slice_cmp}
use Rattle.std.specs.Str.{bytes_eq}
use Rattle.tt_values.specs.Limits.{max_text_bytes}
use Rattle.tt_values.specs.declared.value.Kind.{Kind}
use Rattle.tt_values.specs.declared.value.Kind.TheVariants as kinds
use Rattle.tt_values.specs.declared.value.Value.{Value}
use Rattle.tt_values.specs.declared.value.Value.TheVariants as values

-- whether a value is of this kind
abbrev pub is_of_kind : Kind → Value → Bool
is_of_kind kinds.Int (values.Int n) = true
is_of_kind kinds.Int (values.Text t) = false
is_of_kind kinds.Text (values.Int n) = false
is_of_kind kinds.Text (values.Text t) = true

-- whether two values are of the same kind, and the same number or text
abbrev pub is_same : Value → Value → Bool
is_same (values.Int m) (values.Int n) = int_eq m n
is_same (values.Int m) (values.Text t) = false
is_same (values.Text s) (values.Int n) = false
is_same (values.Text s) (values.Text t) = bytes_eq s t

-- whether a value is of the other's kind, and less: ints as numbers, texts by their bytes
abbrev pub is_less : Value → Value → Bool
is_less (values.Int m) (values.Int n) = int_lt m n
is_less (values.Int m) (values.Text t) = false
is_less (values.Text s) (values.Int n) = false
is_less (values.Text s) (values.Text t) = is_lt (slice_cmp nat_cmp s t)

-- whether a value is a text that is too long
abbrev pub is_long_text : Value → Bool
is_long_text (values.Int n) = false
is_long_text (values.Text t) = nat_lt max_text_bytes (length t)
