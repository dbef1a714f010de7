-- What is told of a log that is looked at.
use Rattle.std.proofs.Common.{◌≡◌, ◌≢◌, inl, inr, ℕ, zero, suc, ◌+◌, ◌<◌, ◌≤◌, Bool, true, false, not, List, [], ◌∷◌, ◌++◌, length, take, drop, refl, sym, ◌∙◌, ap, subst, arith, append_assoc, length-append}
use Rattle.std.proofs.lemmas.List.{append-nil, length-replicate, length-take, take-append-le, take_all}
use Rattle.std.proofs.lemmas.Bool.{cases_eq, cases_lt}
use Rattle.tt_log.specs.Crash.{written_over}
use Rattle.tt_log.specs.Device.{ShowsFirst}
use Rattle.tt_log.specs.Lines.{text, with_byte_if, whole_lines_of, logged, joined, zeros}
use Rattle.tt_log.specs.Log.{IsAtRest}
use Rattle.tt_log.proofs.LineLemmas.{whole_lines_of-feed, whole_lines_of-other, whole_lines_of-joined, AreLines-logged}
use Rattle.tt_log.proofs.ReadingLemmas.{take-add, take-take, end_is}
use Rattle.tt_log.proofs.RestLemmas.{parts, zeroed, at_rest-zeroed}

length-with_byte : (b : ℕ) (lines : List (List ℕ)) → length (with_byte_if b lines) ≡ length lines
length-with_byte b [] = refl
length-with_byte b (line ∷ lines) = refl

pub count-append : (first more : List ℕ) → length (whole_lines_of (first ++ more)) ≡ length (whole_lines_of first) + length (whole_lines_of more)
count-append [] more = omega arith
count-append (b ∷ first) more = elim (cases_eq b 10) [
  | inl feed ↦ omega (arith, count-append first more, ap length (whole_lines_of-feed b first feed), ap length (whole_lines_of-feed b (first ++ more) feed))
  | inr other ↦
      omega (
        arith,
        count-append first more,
        ap length (whole_lines_of-other b first other),
        ap length (whole_lines_of-other b (first ++ more) other),
        length-with_byte b (whole_lines_of first),
        length-with_byte b (whole_lines_of (first ++ more)),
      )
]

-- one piece more
pub count_piece : (seen piece : List ℕ) (at count before : ℕ) → piece ≡ take count (drop at seen) → before ≡ length (whole_lines_of (take at seen))
    → before + length (whole_lines_of piece) ≡ length (whole_lines_of (take (at + count) seen))
count_piece seen piece at count before is was =
    let all = ap (λ (l : List ℕ). length (whole_lines_of l)) (take-add at count seen) ∙ count-append (take at seen) (take count (drop at seen)) in
    omega (arith, was, all, ap (λ (l : List ℕ). length (whole_lines_of l)) is)

pub shown_piece : (seen piece shown before after : List ℕ) (at count : ℕ) → piece ≡ take count (drop at seen) → shown ≡ before ++ take at seen
    → after ≡ shown ++ piece → after ≡ before ++ take (at + count) seen
shown_piece seen piece shown before after at count is was new =
    new
    ∙ ap (λ (l : List ℕ). l ++ piece) was
    ∙ ap (λ (l : List ℕ). (before ++ take at seen) ++ l) is
    ∙ append_assoc before (take at seen) (take count (drop at seen))
    ∙ ap (λ (l : List ℕ). before ++ l) (sym (take-add at count seen))

-- what was handed over before, and the first bytes of one piece more, are the first bytes of all
pub first_of_piece : (seen piece shown before after : List ℕ) (at count end : ℕ) → piece ≡ take count (drop at seen) → at + count ≤ end → shown ≡ before ++ take at seen
    → ShowsFirst shown after piece → ShowsFirst before after (take end seen)
first_of_piece seen piece shown before after at count end is within was new = elim (cases_lt new.0 count) [
  | inl few ↦ upto new.0 (omega (arith, few)) (ap (take new.0) is ∙ take-take new.0 count (drop at seen) (omega (arith, few)))
  | inr all ↦ upto count (omega arith) (ap (take new.0) is ∙ take_all new.0 (take count (drop at seen)) (omega (arith, all, length-take count (drop at seen))))
]
  where
    upto : (n : ℕ) → n ≤ count → take new.0 piece ≡ take n (drop at seen) → ShowsFirst before after (take end seen)
    upto n few first = (
      at + n,
      shown_piece seen (take new.0 piece) shown before after at n first was new.1
          ∙ ap (λ (l : List ℕ). before ++ l) (sym (take-take (at + n) end seen (omega (arith, within, few)))),
    )

-- the first bytes of a file, up to the end of its last line
pub first_are : (file : List ℕ) (end : ℕ) → end ≡ length (joined (logged file)) → take end file ≡ joined (logged file)
first_are file end is =
    let p = parts file in
    ap (λ (l : List ℕ). take end l) p.split
    ∙ take-append-le end (joined (logged file)) p.rest (omega (arith, is))
    ∙ ap (λ (n : ℕ). take n (joined (logged file))) is
    ∙ take_all (length (joined (logged file))) (joined (logged file)) (omega arith)

pub lines_of_first : (file : List ℕ) (end : ℕ) → end ≡ length (joined (logged file)) → whole_lines_of (take end file) ≡ logged file
lines_of_first file end is =
    ap whole_lines_of (first_are file end is ∙ sym (append-nil (joined (logged file))))
    ∙ whole_lines_of-joined (logged file) [] (AreLines-logged file)
    ∙ append-nil (logged file)

-- a file that is only lines and bytes 0 has bytes 0 behind its lines
pub rest_clear : (file : List ℕ) (end n : ℕ) → end ≡ length (joined (logged file)) → end + n ≡ length file → IsAtRest file → file ≡ written_over file end (zeros n)
rest_clear file end n is_end is_rest rest =
    let same : rest.room ≡ n = omega (arith, is_end, is_rest, ap length rest.is, length-append (joined (logged file)) (zeros rest.room), length-replicate {A = ℕ} rest.room 0) in
    rest.is ∙ ap (λ (m : ℕ). joined (logged file) ++ zeros m) same ∙ sym (zeroed file end n is_end is_rest)

pub clear_rests : (file : List ℕ) (end n : ℕ) → end ≡ length (joined (logged file)) → end + n ≡ length file → file ≡ written_over file end (zeros n) → IsAtRest file
clear_rests file end n is_end is_rest clear = subst IsAtRest (sym clear) (at_rest-zeroed file end n is_end is_rest)

pub end_within : (e new earlier at n : ℕ) → (e ≡ 0 → new ≡ earlier) → (0 < e → new ≡ at + e) → earlier ≤ at → e ≤ n → new ≤ at + n
end_within zero new earlier at n none some behind few = omega (arith, none refl)
end_within (suc e) new earlier at n none some behind few = omega (arith, some (omega arith))

pub not_false : (b : Bool) → not b ≡ false → b ≡ true
not_false true is = refl
not_false false is = absurd (cc)

pub not_true : (b : Bool) → not b ≡ true → b ≡ false
not_true true is = absurd (cc)
not_true false is = refl

no_lines : (lines : List (List ℕ)) → 0 ≡ length (joined lines) → lines ≡ []
no_lines [] is = refl
no_lines (line ∷ lines) is = absurd (omega (arith, is, length-append line (10 ∷ joined lines)))

-- a line that ends in what is read is one of the log
pub some_lines : (seen : List ℕ) (at end : ℕ) → text seen ≡ take at seen ++ text (drop at seen) → 0 < end → end ≡ length (joined (whole_lines_of (take at seen)))
    → logged seen ≢ []
some_lines seen at end read some is none =
    let all = ap (λ (l : List ℕ). length (whole_lines_of l)) read ∙ count-append (take at seen) (text (drop at seen)) in
    let empty = length-nil (whole_lines_of (take at seen)) (omega (arith, all, ap length none)) in
    omega (arith, some, is, ap (λ (ls : List (List ℕ)). length (joined ls)) empty)
  where
    length-nil : (ls : List (List ℕ)) → length ls ≡ 0 → ls ≡ []
    length-nil [] e = refl
    length-nil (l ∷ ls) e = absurd (omega (arith, e))

-- where all is read and no line ends in it, the log has none
pub none_logged : (seen : List ℕ) (at : ℕ) → text seen ≡ take at seen ++ text (drop at seen) → text (drop at seen) ≡ [] → 0 ≡ length (joined (whole_lines_of (take at seen)))
    → logged seen ≡ []
none_logged seen at read rest is = no_lines (logged seen) (end_is seen at 0 read rest is)
