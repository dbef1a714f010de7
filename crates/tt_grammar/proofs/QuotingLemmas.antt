-- A text in quotes is a text: an escape stands in place of an ASCII character, and the bytes of any other one stay.
use Rattle.std.proofs.Common.{◌≡◌, ℕ, ◌+◌, ◌/◌, ◌%◌, ◌<◌, ◌≤◌, Bool, true, false, cond, nat_lt, ◌==◌, ◌&&◌, List, [], ◌∷◌, Option, Some, None, inl, inr, refl, sym, ap, subst, arith}
use Rattle.std.specs.List.{flat_map}
use Rattle.std.specs.Str.{IsUtf8}
use Rattle.std.proofs.lemmas.Bool.Decides.{nat_tests}
use Rattle.std.proofs.lemmas.Grind.{flat_map-append}
use Rattle.std.proofs.lemmas.Str.{IsUtf8-nil, IsUtf8-encode, IsUtf8-append, encode_ascii}
use Rattle.std.proofs.lemmas.Bool.{cases_lt}
use lib.Utf8.{scalar, scalars, encode, encodes, low_scalar}
use Rattle.tt_grammar.specs.Quoting.{letter_of, hex_digit, escape_by, escape, quoted}

-- each byte is past ASCII; each is ASCII
abbrev AllHigh : List ℕ → Type 0
AllHigh [] = Unit {0}
AllHigh (b ∷ bs) = (128 ≤ b) × AllHigh bs

abbrev AllLow : List ℕ → Type 0
AllLow [] = Unit {0}
AllLow (b ∷ bs) = (b < 128) × AllLow bs

abbrev LowLetter : Option ℕ → Type 0
LowLetter None = Unit {0}
LowLetter (Some l) = l < 128

low_if : (b : Bool) (x y : Option ℕ) → LowLetter x → LowLetter y → LowLetter (cond b x y)
low_if true x y p q = p
low_if false x y p q = q

low_letter : (b : ℕ) → LowLetter (letter_of b)
low_letter b = low_if (b == 34) _ _ (omega arith) (low_if (b == 92) _ _ (omega arith) (low_if (b == 8) _ _ (omega arith) (low_if (b == 9) _ _ (omega arith) (low_if (b == 10) _ _ (omega arith) (low_if (b == 12) _ _ (omega arith) (low_if (b == 13) _ _ (omega arith) tt))))))

low_digit : (n : ℕ) → n < 16 → hex_digit n < 128
low_digit n h = elim (nat_lt n 10) as (λ b. cond b (48 + n) (87 + n) < 128) [ true ↦ omega arith | false ↦ omega arith ]

and_parts : (x y : Bool) → (x && y) ≡ true → (x ≡ true) × (y ≡ true)
and_parts true y e = (refl, e)
and_parts false y e = cc

low_escape : (o : Option ℕ) (b : ℕ) → LowLetter o → b < 128 → AllLow (escape_by o b)
low_escape (Some l) b p h = (omega arith, (p, tt))
low_escape None b p h =
    elim (nat_lt b 32) as (λ t. (b / 16 < 16) → (b % 16 < 16) → AllLow (cond t (92 ∷ 117 ∷ 48 ∷ 48 ∷ hex_digit (b / 16) ∷ hex_digit (b % 16) ∷ []) (b ∷ []))) [
      | true ↦ (λ d m. (omega arith, (omega arith, (omega arith, (omega arith, (low_digit (b / 16) d, (low_digit (b % 16) m, tt)))))))
      | false ↦ (λ d m. (h, tt))
    ]
    (omega arith) (omega arith)

IsUtf8-from_low : (bs : List ℕ) → AllLow bs → IsUtf8 bs
IsUtf8-from_low [] h = IsUtf8-nil
IsUtf8-from_low (b ∷ bs) h = IsUtf8-append (b ∷ []) bs (subst IsUtf8 (encode_ascii b h.0) (IsUtf8-encode b (low_scalar b (omega arith)))) (IsUtf8-from_low bs h.1)

-- a byte past ASCII is printed as it is
plain : (b : ℕ) → 128 ≤ b → escape b ≡ b ∷ []
plain b h = grind (arith, nat_tests)

plain_all : (bs : List ℕ) → AllHigh bs → flat_map escape bs ≡ bs
plain_all [] h = refl
plain_all (b ∷ bs) h = rw (plain b h.0) (ap (λ cs. b ∷ cs) (plain_all bs h.1))

high_if : (b : Bool) (xs ys : List ℕ) → AllHigh xs → AllHigh ys → AllHigh (cond b xs ys)
high_if true xs ys p q = p
high_if false xs ys p q = q

high_bytes : (c : ℕ) → 128 ≤ c → AllHigh (encode c)
unfolding encode
high_bytes c h =
    high_if (nat_lt c 128) _ _ (h, tt) (
    high_if (nat_lt c 2048) _ _ (omega arith, (omega arith, tt)) (
    high_if (nat_lt c 65536) _ _ (omega arith, (omega arith, (omega arith, tt))) (omega arith, (omega arith, (omega arith, (omega arith, tt))))))

-- a character, escaped, is a text
escaped_character : (c : ℕ) → scalar c ≡ true → IsUtf8 (flat_map escape (encode c))
escaped_character c s = elim (cases_lt c 128) [
  | inl h ↦ subst (λ bs. IsUtf8 (flat_map escape bs)) (sym (encode_ascii c h)) (IsUtf8-append (escape c) [] (IsUtf8-from_low (escape c) (low_escape (letter_of c) c (low_letter c) h)) IsUtf8-nil)
  | inr h ↦ subst IsUtf8 (sym (plain_all (encode c) (high_bytes c h))) (IsUtf8-encode c s)
]

escaped_characters : (cs : List ℕ) → scalars cs ≡ true → IsUtf8 (flat_map escape (encodes cs))
escaped_characters [] s = IsUtf8-nil
escaped_characters (c ∷ cs) s =
    let both = and_parts (scalar c) (scalars cs) s in
    rw (flat_map-append escape (encode c) (encodes cs)) (IsUtf8-append _ _ (escaped_character c both.0) (escaped_characters cs both.1))

-- a text in quotes is a text
pub IsUtf8-quoted : (text : List ℕ) → IsUtf8 text → IsUtf8 (quoted text)
IsUtf8-quoted text u =
    let quote : IsUtf8 (34 ∷ []) = IsUtf8-from_low (34 ∷ []) (omega arith, tt) in
    let inner : IsUtf8 (flat_map escape text) = subst (λ bs. IsUtf8 (flat_map escape bs)) u.1.1 (escaped_characters u.0 u.1.0) in
    IsUtf8-append (34 ∷ flat_map escape text) (34 ∷ []) (IsUtf8-append (34 ∷ []) (flat_map escape text) quote inner) quote
