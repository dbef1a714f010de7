-- The cases of a line: it is too long, it isn't UTF-8, or it is a text.
use Rattle.std.proofs.Common.{◌≡◌, ℕ, true, false, List, Err, refl}
use Rattle.std.specs.Prelude.{codes}
use Rattle.std.specs.Str.{IsUtf8, is_utf8}
use Rattle.std.proofs.lemmas.Str.{IsUtf8-from_is_utf8, is_utf8-from_IsUtf8}
use Rattle.tt_grammar.specs.Fault.{fault_here}
use Rattle.tt_grammar.specs.TextValue.{value_of_text}
use Rattle.tt_requests.specs.Lines.{is_too_long}
use Rattle.tt_requests.specs.LineValue.{value_of_line}

pub value_of_line-long : (line : List ℕ) → is_too_long line ≡ true → value_of_line line ≡ Err (fault_here (codes "longer than 16777216 bytes"))
unfolding value_of_line
value_of_line-long line long = rw long refl

pub value_of_line-no_text : (line : List ℕ) → is_too_long line ≡ false → ¬ (IsUtf8 line) → value_of_line line ≡ Err (fault_here (codes "not JSON"))
unfolding value_of_line
value_of_line-no_text line short no_text = (
    elim (is_utf8 line) as (λ b. is_utf8 line ≡ b → value_of_line line ≡ Err (fault_here (codes "not JSON")))
    [ true ↦ λ e. absurd (no_text (IsUtf8-from_is_utf8 line e)) | false ↦ λ e. rw (short, e) refl ] refl)

pub value_of_line-text : (line : List ℕ) → is_too_long line ≡ false → IsUtf8 line → value_of_line line ≡ value_of_text line
unfolding value_of_line
value_of_line-text line short text = rw (short, is_utf8-from_IsUtf8 line text) refl

pub ruleset line_cases = (value_of_line-long, value_of_line-no_text, value_of_line-text)
