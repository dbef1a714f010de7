-- Ranges of keys, which comparisons of the first column leave.
use Rattle.std.specs.Prelude.{◌≡◌, ℕ, ◌==◌, ℤ, int_lt, FitsSigned, Bool, true, not, ◌&&◌, if◌then◌else◌, List, All, Option, None, Some, IsTrue}
use Rattle.std.specs.Int.{w64}
use Rattle.tt_values.specs.declared.comparison.Comparison.{Comparison}
use Rattle.tt_values.specs.declared.comparison.Comparison.TheVariants.{Is, IsNot, Below, AtMost, Above, AtLeast}
use Rattle.tt_values.specs.declared.value.Value.{Value}
use Rattle.tt_values.specs.declared.value.Value.TheVariants as values
use Rattle.tt_values.specs.declared.row.Row.{Row}
use Rattle.tt_values.specs.declared.statement.Equal.{Equal}
use Rattle.tt_values.specs.Row.{first_int}
use Rattle.tt_values.specs.Matches.{matches}
use Rattle.tt_versions.specs.declared.key_range.KeyRange.{KeyRange}
use Rattle.tt_versions.specs.declared.side.Side.{Side}
use Rattle.tt_versions.specs.Sides.{LineagesByKey, side_of}
use Rattle.tt_versions.specs.Index.{IndexState, ListsRow}
use Rattle.tt_versions.specs.Pages.{is_after}

-- whether a key is less than this one, if one is given
abbrev pub is_before : Option ℤ → ℤ → Bool
is_before None key = true
is_before (Some high) key = int_lt key high

-- whether a key lies in a range
abbrev pub is_within : KeyRange → ℤ → Bool
is_within range key = is_after range.after key && is_before range.before key

-- whether a comparison with a value leaves a key. Only those by order, with an int, leave fewer than all
abbrev pub leaves : Comparison → Value → ℤ → Bool
leaves Is v key = true
leaves IsNot v key = true
leaves Below (values.Int bound) key = int_lt key bound
leaves Below (values.Text t) key = true
leaves AtMost (values.Int bound) key = not (int_lt bound key)
leaves AtMost (values.Text t) key = true
leaves Above (values.Int bound) key = int_lt bound key
leaves Above (values.Text t) key = true
leaves AtLeast (values.Int bound) key = not (int_lt key bound)
leaves AtLeast (values.Text t) key = true

-- whether a condition leaves a key: one on another column than the first leaves all
abbrev pub leaves_key : Equal → ℤ → Bool
leaves_key q key = if q.column == 0 then leaves q.how q.value key else true

-- the range has only keys that each condition leaves
abbrev pub IsNarrowest : KeyRange → List Equal → Type 0
IsNarrowest range equals = (key : ℤ) → FitsSigned w64 key → IsTrue (is_within range key) → All (λ q. IsTrue (leaves_key q key)) equals

-- a range has only such keys of another as a test leaves
abbrev pub NarrowsTo : KeyRange → (ℤ → Bool) → KeyRange → Type 0
NarrowsTo before test after = (key : ℤ) → FitsSigned w64 key → IsTrue (is_within after key) → IsTrue (is_within before key && test key)

-- each row that matches and whose first value is a key has it in the range
abbrev pub HasKeysOf : KeyRange → List Equal → Type 0
HasKeysOf range equals = (key : ℤ) (row : Row) → first_int row.values ≡ Some key → IsTrue (matches equals row) → IsTrue (is_within range key)

-- each row of the index that matches has its key in the range
abbrev pub IsRangeOfMatches : IndexState → KeyRange → List Equal → Type 0
IsRangeOfMatches index range equals = (key : ℤ) (row : Row) → ListsRow index key row → IsTrue (matches equals row) → IsTrue (is_within range key)

-- each row that a table ever shows and that matches has its key in the range
abbrev pub HaveKeysWithin : LineagesByKey → KeyRange → List Equal → Type 0
HaveKeysWithin t range equals = (side : Side) (key : ℤ) (time : ℕ) (row : Row) → side_of t side key time ≡ Some row → IsTrue (matches equals row) → IsTrue (is_within range key)
