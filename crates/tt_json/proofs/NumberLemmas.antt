-- Texts of a few digits, read as numbers.
use Rattle.std.proofs.Common.{◌≡◌, ℕ, ◌^◌, ◌<◌, ◌≤◌, List, [], ◌++◌, length, false, true, Some, refl, sym, ap, ◌∙◌, arith, append-nil, lt-ltb, le-leb}
use Rattle.std.proofs.Math.Nat.{pow-le-pow_right}
use Rattle.std.proofs.lemmas.Int.Digits.{digits_value-lt}
use Rattle.std.specs.Str.Parse.{AllDigits, IsNumeral, digits_value}
use Rattle.fast_float.specs.Text.{Parts, scan, with_sign, IsWellFormed}
use Rattle.fast_float.proofs.Writing.{scan-text_of}
use Rattle.serde_json.specs.Data.{unsigned, negative}
use Rattle.serde_json.specs.Read.{number_from}

-- 1 to 18 digits, and nothing else: a number below 2 ^ 63
abbrev AreFewDigits : List ℕ → Type 0
AreFewDigits ds = IsNumeral 10 ds × (length ds ≤ 18)

-- digits, and neither a point nor an exponent
abbrev integer : List ℕ → Parts
integer ds = record { whole = ds; point = false; fraction = []; exponent_negative = false; exponent = []; len = length (ds ++ []) }

scan-digits : (ds : List ℕ) → AllDigits 10 ds → scan ds ≡ integer ds
scan-digits ds h =
    let formed : IsWellFormed (integer ds) = record { whole_digits = h; fraction_digits = tt; exponent_digits = tt; no_point = λ _. refl; no_exponent = λ _. refl; len_is = refl } in
    ap scan (sym (append-nil ds)) ∙ scan-text_of (integer ds) formed

pub few_digits_below : (ds : List ℕ) → AllDigits 10 ds → length ds ≤ 18 → digits_value 10 ds < 10 ^ 18
few_digits_below ds h few = let most = pow-le-pow_right {n = 10} (omega arith) few in omega (arith, digits_value-lt 10 ds h)

pub number_from-few_digits : (ds : List ℕ) → AreFewDigits ds → number_from false (scan ds) ≡ Some (unsigned (digits_value 10 ds))
number_from-few_digits ds (h, few) =
    let below = few_digits_below ds h.1 few in
    let fits : digits_value 10 ds < 2 ^ 64 = omega arith in
    rw (scan-digits ds h.1, append-nil, lt-ltb _ _ h.0, lt-ltb _ _ fits) refl

-- after a minus, where they do not write 0
pub number_from-minus_few_digits : (ds : List ℕ) → AreFewDigits ds → 0 < digits_value 10 ds → number_from true (scan ds) ≡ Some (negative (with_sign true (digits_value 10 ds)))
number_from-minus_few_digits ds (h, few) some =
    let below = few_digits_below ds h.1 few in
    let fits : digits_value 10 ds ≤ 2 ^ 63 = omega arith in
    rw (scan-digits ds h.1, append-nil, lt-ltb _ _ h.0, lt-ltb _ _ some, le-leb _ _ fits) refl
