-- The bytes so far are digits, and the value has room for one more.
use Rattle.std.proofs.Common.{◌≡◌, ℕ, ◌+◌, ◌-◌, ◌*◌, ◌^◌, ◌<◌, ◌≤◌, List, length, get_or, take, arith, length-take}
use Rattle.std.proofs.lemmas.Int.Digits.{digits_more, digits_value_more}
use Rattle.std.proofs.lemmas.Str.{digit_value_digit}
use Rattle.std.specs.Int.{IsInRange}
use Rattle.std.specs.Str.Parse.{AllDigits, digits_value}
use Rattle.tt_json.proofs.NumberLemmas.{few_digits_below}
use Rattle.tt_json.proofs.number.few_digits.Goals as goal

room : (ds : List ℕ) (i value : ℕ) → length ds ≤ 18 → AllDigits 10 (take i ds) → value ≡ digits_value 10 (take i ds) → value < 10 ^ 18
room ds i value few h is = omega (arith, few_digits_below (take i ds) h (omega (arith, length-take i ds)))

more : (ds : List ℕ) (i value : ℕ) → i < length ds → AllDigits 10 (take i ds) → value ≡ digits_value 10 (take i ds) → IsInRange 48 57 (get_or ds i 0)
    → AllDigits 10 (take (i + 1) ds) × (value * 10 + (get_or ds i 0 - 48) ≡ digits_value 10 (take (i + 1) ds))
more ds i value inside h is digit =
    let byte = digit_value_digit (get_or ds i 0) digit in
    (digits_more 10 ds i inside h (omega arith), omega (arith, digits_value_more 10 ds i inside))

pub overflow_mul-value : goal.overflow_mul-value
overflow_mul-value c =
    let so_far = c.loop-byte.invariant in
    omega (arith, room _ _ _ c.if-bytes-gt18.false so_far.all_digits so_far.value_is)

pub overflow_add-value : goal.overflow_add-value
overflow_add-value c =
    let so_far = c.loop-byte.invariant in
    omega (arith, room _ _ _ c.if-bytes-gt18.false so_far.all_digits so_far.value_is)

pub loop-byte-preserved : goal.loop-byte-preserved
loop-byte-preserved c =
    let so_far = c.loop-byte.invariant in
    let byte = (c.type_inv.bytes c.loop-byte.byte-index).fits in
    let next = more c.args.bytes.now _ _ c.loop-byte-test.true so_far.all_digits so_far.value_is (omega arith, omega arith) in
    record { all_digits = next.0; value_is = omega (arith, next.1) }
