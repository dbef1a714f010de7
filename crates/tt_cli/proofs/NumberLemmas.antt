-- The numbers that `get_one` reads of the rows of `--batch` and `--rounds`.
use Rattle.std.proofs.Common.{◌≡◌, ◌∷◌, ◌<◌, ◌≤◌, ◌^◌, ◌⊎◌, [], arith, ap, ℕ, Bool, List, Option, Some, None, Ok, Result, codes, cond, drop, false, inl, inr, neg_ℤ, pos, refl, subst, suc, sym, true, unwrap_or, zero, ◌==◌, ◌∙◌}
use Rattle.std.specs.Int.{w64}
use Rattle.std.specs.Prelude.{◌≤ℤ◌}
use Rattle.std.specs.Str.Parse.{ExplainsUnsignedError, HasUnsignedDigitsIfOk, IsNumeral, ParsesSigned, ParsesUnsigned, digits_value, signed_digits_value, starts_with_minus, without_leading_plus}
use Rattle.std.specs.declared.num.ParseIntError.{ParseIntError}
use Rattle.std.proofs.lemmas.Bool.{ne_eqb}
use Rattle.std.proofs.lemmas.Int.{ints}
use Rattle.std.proofs.lemmas.Str.Parse.{digit_from_value}
use Rattle.clap.specs.Lexer.{without_minus}
use Rattle.clap.specs.Matches.{ReadsOne}
use Rattle.clap.specs.Values.{IsSignedIn}
use Rattle.clap.specs.ValueTests.{is_signed_in}
use Rattle.clap.specs.Walk.{Row, Text, one_of}
use Rattle.clap.specs.declared.builder.value_parser.Reading.TheVariants.{WithoutMinus}
use Rattle.clap.specs.declared.builder.value_parser.ValueParser.TheVariants as parser
use Rattle.clap.proofs.CallerReads.{signed_reads}
use Rattle.clap.proofs.ValueTestLemmas.{accepts-Accepts}
use Rattle.tt_cli.specs.CommandLine.{IsNumberOr, IsSignedOr, given_text}
use Rattle.tt_cli.proofs.RowLemmas.{HasRow, IsDefault, IsGiven}
use Rattle.tt_cli.proofs.SubcommandLemmas.{HasBatch, HasNoRow, HasRounds, IsInRange}

abbrev pub ReadsNumber : List ℕ → Result ℕ ParseIntError → Type 0
ReadsNumber text r = ParsesUnsigned 32 10 text r × ExplainsUnsignedError 10 text r × HasUnsignedDigitsIfOk text r

abbrev Parses : Text → ℕ → Type 0
Parses text n = ParsesUnsigned {E = ParseIntError} 32 10 text (Ok n)

-- ---- an option whose values lie in a range

module _ (id : Text) (low high : ℕ) (usual : Text) (IsOf : Option Text → ℕ → Type 0) where
  -- what `get_one` reads: a number in the range, the one that the words give or the default
  abbrev pub ReadsIn : List Row → Option ℕ → Type 0
  ReadsIn rows read = (n : ℕ) × (read ≡ Some n) × (low ≤ n) × (n ≤ high) × IsOf (given_text id rows) n

  abbrev InRange : Text → Option ℕ → Type 0
  InRange text read = (n : ℕ) × (read ≡ Some n) × (low ≤ n) × (n ≤ high) × Parses (without_minus text) n

  in_range : high < 2 ^ 32 → (text : Text) (read : Option ℕ) → is_signed_in (pos low) (pos high) text ≡ true
      → ReadsOne ReadsNumber (without_minus text) read → InRange text read
  in_range fits text read passes reads =
      let signed : IsSignedIn (pos low) (pos high) text = accepts-Accepts false (parser.Signed (pos low) (pos high)) text passes in
      let n = signed_reads ParseIntError ReadsNumber 32 low high text read reads (λ u x h. h.0) fits signed in
      let number = subst (λ (o : Option ℕ). ReadsOne ReadsNumber (without_minus text) o) n.1 reads in
      (n.0, n.1, n.2, n.3, number.0)

  reads_in : high < 2 ^ 32
      → ((text : Text) (n : ℕ) → IsSignedIn (pos low) (pos high) text → Parses (without_minus text) n → IsOf (Some text) n)
      → ((n : ℕ) → Parses usual n → IsOf None n) → without_minus usual ≡ usual → is_signed_in (pos low) (pos high) usual ≡ true
      → (rows : List Row) (read : Option ℕ) → HasRow id WithoutMinus (IsInRange low high) usual rows
      → ((text : Text) → one_of id rows ≡ Some text → ReadsOne ReadsNumber text read) → ReadsIn rows read
  reads_in fits of_text of_none plain passes rows read has reads = elim has.2 [ inl g ↦ from_words g | inr d ↦ from_default d ]
    where
      from_words : IsGiven id WithoutMinus (IsInRange low high) has.0 → ReadsIn rows read
      from_words g =
          let one : one_of id rows ≡ Some (without_minus g.0) = rw (has.1, g.1, g.2) refl in
          let text : given_text id rows ≡ Some g.0 = rw (has.1, g.3, g.1) refl in
          let n = in_range fits g.0 read g.4 (reads (without_minus g.0) one) in
          let signed = accepts-Accepts false (parser.Signed (pos low) (pos high)) g.0 g.4 in
          (n.0, n.1, n.2, n.3, subst (λ (o : Option Text). IsOf o n.0) (sym text) (of_text g.0 n.0 signed n.4))

      from_default : IsDefault id WithoutMinus (IsInRange low high) usual has.0 → ReadsIn rows read
      from_default d =
          let one : one_of id rows ≡ Some (without_minus usual) = rw (has.1, d.0, d.1) refl in
          let text : given_text id rows ≡ None = rw (has.1, d.2) refl in
          let n = in_range fits usual read passes (reads (without_minus usual) one) in
          let number = subst (λ (t : Text). Parses t n.0) plain n.4 in
          (n.0, n.1, n.2, n.3, subst (λ (o : Option Text). IsOf o n.0) (sym text) (of_none n.0 number))

-- ---- `--batch`

no_minus : (text : Text) → IsSignedIn (pos 1) (pos 10000) text → without_minus text ≡ text
no_minus [] h = refl
no_minus (x ∷ xs) h = go (x == 45) refl
  where
    go : (b : Bool) → starts_with_minus (x ∷ xs) ≡ b → unwrap_or (cond b (Some xs) None) (x ∷ xs) ≡ x ∷ xs
    go false other = refl
    go true minus =
        let low = rw minus at h.2 in
        absurd (omega (arith, ints))

abbrev pub ReadsBatch : List Row → Option ℕ → Type 0
ReadsBatch = ReadsIn (codes "batch") 1 10000 (codes "16") (IsNumberOr 16)

pub reads_batch : (rows : List Row) (read : Option ℕ) → HasBatch rows
    → ((text : Text) → one_of (codes "batch") rows ≡ Some text → ReadsOne ReadsNumber text read) → ReadsBatch rows read
reads_batch = reads_in (codes "batch") 1 10000 (codes "16") (IsNumberOr 16) (omega arith)
    (λ text n signed number. subst (λ (t : Text). Parses t n) (no_minus text signed) number)
    (λ n number. number.1) refl refl

-- ---- `--rounds`

minus_of_none : (d : ℕ) → pos 0 ≤ℤ neg_ℤ (pos d) → pos d ≡ neg_ℤ (pos d)
minus_of_none zero low = refl
minus_of_none (suc d) low = absurd (omega (arith, ints))

no_plus : (ds : List ℕ) → IsNumeral 10 ds → without_leading_plus ds ≡ ds
no_plus [] numeral = refl
no_plus (d ∷ ds) numeral =
    let other : (d == 43) ≡ false = ne_eqb _ _ (λ e. omega (arith, digit_from_value d numeral.1.0)) in
    ap (λ (b : Bool). drop (cond b 1 0) (d ∷ ds)) other

-- a text with no negative number is read without its minus as it is with it
signed_is : (text : Text) (n : ℕ) → IsSignedIn (pos 0) (pos 1000) text → Parses (without_minus text) n
    → ParsesSigned {E = ParseIntError} w64 10 text (Ok (pos n))
signed_is [] n signed number = absurd (omega (arith, signed.0.0))
signed_is (x ∷ xs) n signed number = ((signed.0, signed.1), go (x == 45) refl number.1)
  where
    go : (b : Bool) → starts_with_minus (x ∷ xs) ≡ b
        → n ≡ digits_value 10 (without_leading_plus (unwrap_or (cond b (Some xs) None) (x ∷ xs)))
        → pos n ≡ signed_digits_value 10 (x ∷ xs)
    go true minus is =
        let numeral : IsNumeral 10 xs = rw minus at signed.0 in
        let low : pos 0 ≤ℤ neg_ℤ (pos (digits_value 10 xs)) = rw minus at signed.2 in
        let same : n ≡ digits_value 10 xs = is ∙ ap (digits_value 10) (no_plus xs numeral) in
        rw minus (ap pos same ∙ minus_of_none (digits_value 10 xs) low)
    go false other is = rw other (ap pos is)

abbrev pub ReadsRounds : List Row → ℕ → Type 0
ReadsRounds rows n = (n ≤ 1000) × IsSignedOr 8 (given_text (codes "rounds") rows) n

-- the number that is read of a row, or 8 where there is none
pub reads_rounds : (rows : List Row) (read : Option ℕ) → HasRounds rows ⊎ HasNoRow (codes "rounds") rows → (one_of (codes "rounds") rows ≡ None → read ≡ None)
    → ((text : Text) → one_of (codes "rounds") rows ≡ Some text → ReadsOne ReadsNumber text read) → ReadsRounds rows (unwrap_or read 8)
reads_rounds rows read has none reads = elim has [ inl row ↦ from_row row | inr no_row ↦ from_none no_row ]
  where
    from_row : HasRounds rows → ReadsRounds rows (unwrap_or read 8)
    from_row row =
        let n = reads_in (codes "rounds") 0 1000 (codes "8") (IsSignedOr 8) (omega arith) signed_is (λ n number. number.1) refl refl rows read row reads in
        rw n.1 (n.3, n.4)

    from_none : HasNoRow (codes "rounds") rows → ReadsRounds rows (unwrap_or read 8)
    from_none no_row =
        let nothing : read ≡ None = none (rw no_row refl) in
        let text : given_text (codes "rounds") rows ≡ None = rw no_row refl in
        rw (nothing, text) (omega arith, refl)
