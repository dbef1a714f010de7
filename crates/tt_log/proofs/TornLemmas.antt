-- What a crash leaves of lines that are written where there were bytes 0.
use Rattle.std.proofs.Common.{◌≡◌, ◌≢◌, inl, inr, ⊎_elim, ℕ, zero, suc, ◌+◌, ◌-◌, ◌≤◌, List, [], ◌∷◌, ◌++◌, length, take, refl, sym, ◌∙◌, ap, arith}
use Rattle.std.proofs.lemmas.List.{append-nil, take-append-le}
use Rattle.std.proofs.lemmas.Bool.{cases_eq, cases_lt}
use Rattle.tt_log.specs.Lines.{text, whole_lines_of, logged, joined, zeros, AreLines}
use Rattle.tt_log.specs.Crash.{IsMix}
use Rattle.tt_log.proofs.LineLemmas.{text-zero, text-other, text-zeros, text-joined, whole_lines_of-line, whole_lines_of-part, logged-joined}

-- the front of a text, as far as a crash left it
pub record IsFront (front whole : List ℕ) : Type 0 where
  pub size : ℕ
  pub is : front ≡ take size whole

-- where there were bytes 0: up to the first 0 there stand new bytes
pub text_torn : (n : ℕ) (new after : List ℕ) → IsMix (zeros n) new after → IsFront (text after) (text new)
text_torn zero [] [] crash = record { size = 0; is = refl }
text_torn zero [] (a ∷ after) crash = absurd crash
text_torn zero (b ∷ new) after crash = absurd crash
text_torn (suc n) [] after crash = absurd crash
text_torn (suc n) (b ∷ new) [] crash = absurd crash
text_torn (suc n) (b ∷ new) (a ∷ after) crash = elim (cases_eq a 0) [
  | inl is ↦ record { size = 0; is = text-zero a after is }
  | inr other ↦
      let is_new : a ≡ b = ⊎_elim (λ old. absurd (other old)) (λ new. new) crash.0 in
      let not_zero : b ≢ 0 = λ is. other (is_new ∙ is) in
      let rest = text_torn n new after crash.1 in
      record {
        size = suc rest.size;
        is = text-other a after other ∙ (λ i. is_new i ∷ rest.is i) ∙ sym (ap (take (suc rest.size)) (text-other b new not_zero));
      }
]

-- a front of lines has the first few of them, and maybe a line that isn't ended
pub record HasFirst (lines new : List (List ℕ)) : Type 0 where
  pub count : ℕ
  pub no_more : count ≤ length new
  pub are : lines ≡ take count new

pub take_past : (xs ys : List ℕ) (m n : ℕ) → m ≡ length xs + n → take m (xs ++ ys) ≡ xs ++ take n ys
take_past [] ys m n is = let same : m ≡ n = omega arith in ap (λ (k : ℕ). take k ys) same
take_past (x ∷ xs) ys zero n is = absurd (omega arith)
take_past (x ∷ xs) ys (suc m) n is = ap (λ (l : List ℕ). x ∷ l) (take_past xs ys m n (omega arith))

pub first_lines : (new : List (List ℕ)) (n : ℕ) → AreLines new → HasFirst (whole_lines_of (take n (joined new))) new
first_lines [] zero are = record { count = 0; no_more = omega arith; are = refl }
first_lines [] (suc n) are = record { count = 0; no_more = omega arith; are = refl }
first_lines (line ∷ new) n are = elim (cases_lt (length line) n) [
  | inl long ↦
      let m = n - suc (length line) in
      let rest = first_lines new m are.1 in
      record {
        count = suc rest.count;
        no_more = omega (arith, rest.no_more);
        are = ap whole_lines_of (take_past line (10 ∷ joined new) n (suc m) (omega arith)) ∙ whole_lines_of-line line (take m (joined new)) are.0 ∙ ap (λ (l : List (List ℕ)). line ∷ l) rest.are;
      }
  | inr short ↦ record {
    count = 0;
    no_more = omega arith;
    are = ap whole_lines_of (take-append-le n line (10 ∷ joined new) short) ∙ whole_lines_of-part n line are.0;
  }
]

-- what stood there and stands there is left
pub same_part : (part old new after : List ℕ) → IsMix (part ++ old) (part ++ new) after → (rest : List ℕ) × (after ≡ part ++ rest) × IsMix old new rest
same_part [] old new after crash = (after, refl, crash)
same_part (b ∷ part) old new [] crash = absurd crash
same_part (b ∷ part) old new (a ∷ after) crash =
    let same : a ≡ b = ⊎_elim (λ is. is) (λ is. is) crash.0 in
    let further = same_part part old new after crash.1 in
    (further.0, (λ i. same i ∷ further.1 i), further.2)

-- Lines are written behind lines, where there were bytes 0: a crash leaves those that were there and the first few of the new.
pub torn : (lines new : List (List ℕ)) (room rest : ℕ) (after : List ℕ) → AreLines lines → AreLines new
    → IsMix (joined lines ++ zeros room) (joined lines ++ (joined new ++ zeros rest)) after
    → (count : ℕ) × (count ≤ length new) × (logged after ≡ lines ++ take count new)
torn lines new room rest after are new_are crash =
    let split = same_part (joined lines) (zeros room) (joined new ++ zeros rest) after crash in
    let front = text_torn room (joined new ++ zeros rest) split.0 split.2 in
    let whole : text (joined new ++ zeros rest) ≡ joined new = text-joined new (zeros rest) new_are ∙ ap (λ (l : List ℕ). joined new ++ l) (text-zeros rest) ∙ append-nil (joined new) in
    let first = first_lines new front.size new_are in (
      first.count,
      first.no_more,
      ap logged split.1 ∙ logged-joined lines split.0 are
          ∙ ap (λ (l : List ℕ). lines ++ whole_lines_of l) (front.is ∙ ap (take front.size) whole)
          ∙ ap (λ (l : List (List ℕ)). lines ++ l) first.are,
    )
