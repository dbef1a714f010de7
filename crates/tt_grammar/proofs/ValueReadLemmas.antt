-- A printed value is read back as the same value.
use Rattle.std.proofs.Common.{◌≡◌, ◌<◌, ◌≤◌, ◌^◌, ℤ, pos, negsuc, None, Some, option_map, Ok, IsUtf8, refl, ap, arith, lt-ltb}
use Rattle.std.proofs.lemmas.Fmt.{IsAscii-signed}
use Rattle.std.proofs.lemmas.Str.{IsUtf8-from_ascii}
use Rattle.std.specs.Fmt.{signed_decimal}
use Rattle.json.specs.Json as json
use Rattle.json.specs.Tree.{HasNumbers, depth}
use Rattle.json.proofs.Printed.Decimals.{IsNumber-signed_decimal}
use Rattle.serde_json.specs.Data.{Data, number, string}
use Rattle.serde_json.specs.Find.{of_integer}
use Rattle.serde_json.specs.Read.{of_json}
use Rattle.serde_json.proofs.Numbers.{number_of-decimal, number_of-negative}
use Rattle.tt_values.specs.declared.value.Value.{Value}
use Rattle.tt_values.specs.declared.value.Value.TheVariants as values
use Rattle.tt_grammar.specs.Decoder.{int}
use Rattle.tt_grammar.specs.Conditions.{value}
use Rattle.tt_grammar.specs.RepeatedMembers.{repeated_member}
use Rattle.tt_grammar.proofs.QuotingLemmas.{IsUtf8-quoted}
use Rattle.tt_grammar.specs.Printing.{value_text}
use Rattle.tt_grammar.specs.ReadBack.{IsStorable}
use Rattle.tt_grammar.proofs.JsonReadLemmas.{Prints, number-prints, string-prints}
use Rattle.tt_grammar.proofs.ItemReadLemmas.{IsReadBack}

-- the tree that a value is printed as, and what it stands for
abbrev pub json_of_value : Value → json.Json
json_of_value (values.Int n) = json.number (signed_decimal n)
json_of_value (values.Text t) = json.string t

abbrev pub data_of_value : Value → Data
data_of_value (values.Int n) = number (of_integer n)
data_of_value (values.Text t) = string t

value-prints : (v : Value) → Prints (json_of_value v) (value_text v)
value-prints (values.Int n) = number-prints (signed_decimal n)
value-prints (values.Text t) = string-prints t

value-utf8 : (v : Value) → IsStorable v → IsUtf8 (value_text v)
value-utf8 (values.Int (pos n)) h = IsUtf8-from_ascii (signed_decimal (pos n)) (IsAscii-signed (pos n) (omega (arith, h.sfits)))
value-utf8 (values.Int (negsuc n)) h = IsUtf8-from_ascii (signed_decimal (negsuc n)) (IsAscii-signed (negsuc n) (omega (arith, h.sfits)))
value-utf8 (values.Text t) h = IsUtf8-quoted t h

value-once : (v : Value) → repeated_member (json_of_value v) ≡ None
value-once (values.Int n) = refl
value-once (values.Text t) = refl

value-shallow : (v : Value) → depth (json_of_value v) ≤ 0
value-shallow (values.Int n) = omega arith
value-shallow (values.Text t) = omega arith

value-has_numbers : (v : Value) → IsStorable v → HasNumbers (json_of_value v)
value-has_numbers (values.Int (pos n)) h = IsNumber-signed_decimal (pos n) (omega (arith, h.sfits))
value-has_numbers (values.Int (negsuc n)) h = IsNumber-signed_decimal (negsuc n) (omega (arith, h.sfits))
value-has_numbers (values.Text t) h = tt

value-of_json : (v : Value) → IsStorable v → of_json (json_of_value v) ≡ Some (data_of_value v)
value-of_json (values.Int (pos n)) h =
    let fits : n < 2 ^ 64 = omega (arith, h.sfits) in
    ap (λ o. option_map number o) (number_of-decimal n fits)
value-of_json (values.Int (negsuc n)) h =
    let fits : n < 2 ^ 63 = omega (arith, h.sfits) in
    ap (λ o. option_map number o) (number_of-negative n fits)
value-of_json (values.Text t) h = refl

value-decoded : (v : Value) → IsStorable v → value (data_of_value v) ≡ Ok v
value-decoded (values.Int (pos n)) h =
    let fits : n < 2 ^ 63 = omega (arith, h.sfits) in
    rw (lt-ltb n (2 ^ 63) fits) refl
value-decoded (values.Int (negsuc n)) h = refl
value-decoded (values.Text t) h = refl

-- a value is read back
pub value-back : (v : Value) → IsStorable v → IsReadBack 0 (json_of_value v) (value_text v) (data_of_value v) value v
value-back v h = record {
  prints = value-prints v;
  utf8 = value-utf8 v h;
  numbers = value-has_numbers v h;
  shallow = value-shallow v;
  stands = value-of_json v h;
  once = value-once v;
  decoded = value-decoded v h;
}

-- a number is read back
pub int-decoded : (z : ℤ) → IsStorable (values.Int z) → int (data_of_value (values.Int z)) ≡ Ok z
int-decoded (pos n) h =
    let fits : n < 2 ^ 63 = omega (arith, h.sfits) in
    rw (lt-ltb n (2 ^ 63) fits) refl
int-decoded (negsuc n) h = refl
