-- A few digits that do not write 0 are the number that the numeral is after a minus.
use Rattle.std.proofs.Common.{◌≡◌, ℕ, ◌<◌, ◌^◌, pos, ◌-ℤ◌, neg_ℤ, to_z, of_z, w64, FitsSigned, Some, sym, ap, ◌∙◌, arith}
use Rattle.std.proofs.lemmas.Int.{ints, to_z-of_z}
use Rattle.serde_json.specs.Data.{negative}
use Rattle.tt_json.proofs.NumberLemmas.{few_digits_below, number_from-minus_few_digits}
use Rattle.tt_json.proofs.number.after_minus.Goals as goal

fits : (n : ℕ) → n < 10 ^ 18 → FitsSigned w64 (pos 0 -ℤ to_z w64 n)
fits n h = omega (arith, ints)

negated : (n : ℕ) → n < 10 ^ 18 → to_z w64 (of_z w64 (pos 0 -ℤ to_z w64 n)) ≡ neg_ℤ (pos n)
negated n h = to_z-of_z w64 _ (fits n h) ∙ omega (arith, ints)

pub overflow_cast-result : goal.overflow_cast-result
overflow_cast-result c = let ((digits, few), is) = c.in-Some.ensures in omega (arith, few_digits_below _ digits.1 few)

pub overflow_sub-result : goal.overflow_sub-result
overflow_sub-result c = let ((digits, few), is) = c.in-Some.ensures in omega (arith, ints, few_digits_below _ digits.1 few)

pub returns-in-Some : goal.returns-in-Some
returns-in-Some c =
    let ((digits, few), is) = c.in-Some.ensures in
    let below = few_digits_below _ digits.1 few in
    ap (λ z. Some (negative z)) (negated c.in-Some.n (omega arith) ∙ ap (λ n. neg_ℤ (pos n)) is) ∙ sym (number_from-minus_few_digits _ (digits, few) (omega arith))
