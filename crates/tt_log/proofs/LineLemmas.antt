-- What bytes of lines stand for.
use Rattle.std.proofs.Common.{◌≡◌, ◌≢◌, inl, inr, ℕ, zero, suc, List, [], ◌∷◌, ◌++◌, take, refl, sym, ◌∙◌, ap, subst, arith, append_assoc}
use Rattle.std.proofs.lemmas.List.{append-nil}
use Rattle.std.proofs.lemmas.Bool.{cases_eq}
use Rattle.std.proofs.lemmas.Bool.Decides.{nat_tests}
use Rattle.tt_log.specs.Lines.{text, with_byte_if, whole_lines_of, logged, joined, zeros, IsLine, AreLines}

pub text-zero : (b : ℕ) (bytes : List ℕ) → b ≡ 0 → text (b ∷ bytes) ≡ []
text-zero b bytes is = grind (arith, nat_tests)

pub text-other : (b : ℕ) (bytes : List ℕ) → b ≢ 0 → text (b ∷ bytes) ≡ b ∷ text bytes
text-other b bytes other = grind (arith, nat_tests)

pub whole_lines_of-feed : (b : ℕ) (bytes : List ℕ) → b ≡ 10 → whole_lines_of (b ∷ bytes) ≡ [] ∷ whole_lines_of bytes
whole_lines_of-feed b bytes is = grind (arith, nat_tests)

pub whole_lines_of-other : (b : ℕ) (bytes : List ℕ) → b ≢ 10 → whole_lines_of (b ∷ bytes) ≡ with_byte_if b (whole_lines_of bytes)
whole_lines_of-other b bytes other = grind (arith, nat_tests)

pub text-line : (line rest : List ℕ) → IsLine line → text (line ++ rest) ≡ line ++ text rest
text-line [] rest is = refl
text-line (b ∷ line) rest is = text-other b (line ++ rest) is.0 ∙ ap (λ (l : List ℕ). b ∷ l) (text-line line rest is.2)

pub text-joined : (lines : List (List ℕ)) (rest : List ℕ) → AreLines lines → text (joined lines ++ rest) ≡ joined lines ++ text rest
text-joined [] rest are = refl
text-joined (line ∷ lines) rest are =
    ap text (append_assoc line (10 ∷ joined lines) rest)
    ∙ text-line line (10 ∷ (joined lines ++ rest)) are.0
    ∙ ap (λ (l : List ℕ). line ++ 10 ∷ l) (text-joined lines rest are.1)
    ∙ sym (append_assoc line (10 ∷ joined lines) (text rest))

pub whole_lines_of-line : (line rest : List ℕ) → IsLine line → whole_lines_of (line ++ 10 ∷ rest) ≡ line ∷ whole_lines_of rest
whole_lines_of-line [] rest is = refl
whole_lines_of-line (b ∷ line) rest is = whole_lines_of-other b (line ++ 10 ∷ rest) is.1 ∙ ap (with_byte_if b) (whole_lines_of-line line rest is.2)

-- a line that isn't ended counts for nothing
pub whole_lines_of-part : (n : ℕ) (line : List ℕ) → IsLine line → whole_lines_of (take n line) ≡ []
whole_lines_of-part zero line is = refl
whole_lines_of-part (suc n) [] is = refl
whole_lines_of-part (suc n) (b ∷ line) is = whole_lines_of-other b (take n line) is.1 ∙ ap (with_byte_if b) (whole_lines_of-part n line is.2)

pub whole_lines_of-joined : (lines : List (List ℕ)) (rest : List ℕ) → AreLines lines → whole_lines_of (joined lines ++ rest) ≡ lines ++ whole_lines_of rest
whole_lines_of-joined [] rest are = refl
whole_lines_of-joined (line ∷ lines) rest are =
    ap whole_lines_of (append_assoc line (10 ∷ joined lines) rest)
    ∙ whole_lines_of-line line (joined lines ++ rest) are.0
    ∙ ap (λ (l : List (List ℕ)). line ∷ l) (whole_lines_of-joined lines rest are.1)

-- lines, and then whatever the rest stands for
pub logged-joined : (lines : List (List ℕ)) (rest : List ℕ) → AreLines lines → logged (joined lines ++ rest) ≡ lines ++ logged rest
logged-joined lines rest are = ap whole_lines_of (text-joined lines rest are) ∙ whole_lines_of-joined lines (text rest) are

pub text-zeros : (n : ℕ) → text (zeros n) ≡ []
text-zeros zero = refl
text-zeros (suc n) = refl

pub logged-zeros : (lines : List (List ℕ)) (n : ℕ) → AreLines lines → logged (joined lines ++ zeros n) ≡ lines
logged-zeros lines n are = logged-joined lines (zeros n) are ∙ ap (λ (l : List ℕ). lines ++ whole_lines_of l) (text-zeros n) ∙ append-nil lines

pub joined-append : (first second : List (List ℕ)) → joined (first ++ second) ≡ joined first ++ joined second
joined-append [] second = refl
joined-append (line ∷ first) second =
    ap (λ (l : List ℕ). line ++ 10 ∷ l) (joined-append first second) ∙ sym (append_assoc line (10 ∷ joined first) (joined second))

pub AreLines-append : (first second : List (List ℕ)) → AreLines first → AreLines second → AreLines (first ++ second)
AreLines-append [] second f s = s
AreLines-append (line ∷ first) second f s = (f.0, AreLines-append first second f.1 s)

-- what is logged is lines, whatever the bytes
with_byte-lines : (b : ℕ) (lines : List (List ℕ)) → b ≢ 0 → b ≢ 10 → AreLines lines → AreLines (with_byte_if b lines)
with_byte-lines b [] no_zero no_feed are = tt
with_byte-lines b (line ∷ lines) no_zero no_feed are = ((no_zero, no_feed, are.0), are.1)

pub AreLines-logged : (bytes : List ℕ) → AreLines (logged bytes)
AreLines-logged [] = tt
AreLines-logged (b ∷ bytes) = elim (cases_eq b 0) [
  | inl is ↦ subst (λ (l : List ℕ). AreLines (whole_lines_of l)) (sym (text-zero b bytes is)) tt
  | inr other ↦
      let there : AreLines (whole_lines_of (b ∷ text bytes)) = elim (cases_eq b 10) [
        | inl feed ↦ subst AreLines (sym (whole_lines_of-feed b (text bytes) feed)) (tt, AreLines-logged bytes)
        | inr no_feed ↦ subst AreLines (sym (whole_lines_of-other b (text bytes) no_feed)) (with_byte-lines b (logged bytes) other no_feed (AreLines-logged bytes))
      ] in
      subst (λ (l : List ℕ). AreLines (whole_lines_of l)) (sym (text-other b bytes other)) there
]

-- bytes 0 behind a file add nothing, whatever the file
pub text-grown : (file : List ℕ) (n : ℕ) → text (file ++ zeros n) ≡ text file
text-grown [] n = text-zeros n
text-grown (b ∷ file) n = elim (cases_eq b 0) [
  | inl is ↦ text-zero b (file ++ zeros n) is ∙ sym (text-zero b file is)
  | inr other ↦ text-other b (file ++ zeros n) other ∙ ap (λ (l : List ℕ). b ∷ l) (text-grown file n) ∙ sym (text-other b file other)
]

pub logged-grown : (file : List ℕ) (n : ℕ) → logged (file ++ zeros n) ≡ logged file
logged-grown file n = ap whole_lines_of (text-grown file n)
