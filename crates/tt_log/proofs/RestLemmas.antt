-- What stands behind the lines of a file.
use Rattle.std.proofs.Common.{◌≡◌, ◌≢◌, inl, inr, ℕ, ◌+◌, ◌≤◌, ◌<◌, List, [], ◌∷◌, ◌++◌, length, take, drop, get_or, refl, sym, ◌∙◌, ap, arith}
use Rattle.std.specs.Prelude.{if◌then◌else◌, ◌==◌}
use Rattle.std.proofs.lemmas.List.{append-nil, take_at, drop_more, drop_all, length-replicate}
use Rattle.std.proofs.lemmas.Bool.{cases_eq}
use Rattle.std.proofs.lemmas.Bool.Decides.{nat_tests}
use Rattle.tt_log.specs.Lines.{text, with_byte_if, whole_lines_of, logged, joined, end_behind, zeros}
use Rattle.tt_log.specs.Crash.{written_over}
use Rattle.tt_log.specs.Log.{IsAtRest}
use Rattle.tt_log.proofs.LineLemmas.{text-zero, text-other, whole_lines_of-feed, whole_lines_of-other, AreLines-logged, logged-zeros}

logged-zero : (b : ℕ) (bytes : List ℕ) → b ≡ 0 → logged (b ∷ bytes) ≡ []
logged-zero b bytes is = ap whole_lines_of (text-zero b bytes is)

logged-feed : (b : ℕ) (bytes : List ℕ) → b ≡ 10 → logged (b ∷ bytes) ≡ [] ∷ logged bytes
logged-feed b bytes is = let other : b ≢ 0 = omega arith in ap whole_lines_of (text-other b bytes other) ∙ whole_lines_of-feed b (text bytes) is

logged-other : (b : ℕ) (bytes : List ℕ) → b ≢ 0 → b ≢ 10 → logged (b ∷ bytes) ≡ with_byte_if b (logged bytes)
logged-other b bytes no_zero no_feed = ap whole_lines_of (text-other b bytes no_zero) ∙ whole_lines_of-other b (text bytes) no_feed

-- where the last line ends: at `end` so far, and `at` bytes have been read
abbrev pub end_from : ℕ → ℕ → List ℕ → ℕ
end_from end at [] = end
end_from end at (b ∷ bytes) = if b == 0 then end else if b == 10 then end_from (at + 1) (at + 1) bytes else end_from end (at + 1) bytes

pub end_from-zero : (end at b : ℕ) (bytes : List ℕ) → b ≡ 0 → end_from end at (b ∷ bytes) ≡ end
end_from-zero end at b bytes is = grind (arith, nat_tests)

pub end_from-feed : (end at b : ℕ) (bytes : List ℕ) → b ≡ 10 → end_from end at (b ∷ bytes) ≡ end_from (at + 1) (at + 1) bytes
end_from-feed end at b bytes is = grind (arith, nat_tests)

pub end_from-other : (end at b : ℕ) (bytes : List ℕ) → b ≢ 0 → b ≢ 10 → end_from end at (b ∷ bytes) ≡ end_from end (at + 1) bytes
end_from-other end at b bytes no_zero no_feed = grind (arith, nat_tests)

end_behind-feed : (end at : ℕ) (lines : List (List ℕ)) → end_behind (at + 1) (at + 1) lines ≡ end_behind end at ([] ∷ lines)
end_behind-feed end at [] = omega arith
end_behind-feed end at (line ∷ lines) = omega arith

end_behind-byte : (end at b : ℕ) (lines : List (List ℕ)) → end_behind end (at + 1) lines ≡ end_behind end at (with_byte_if b lines)
end_behind-byte end at b [] = refl
end_behind-byte end at b (line ∷ lines) = omega arith

ends : (end at : ℕ) (bytes : List ℕ) → end_from end at bytes ≡ end_behind end at (logged bytes)
ends end at [] = refl
ends end at (b ∷ bytes) = elim (cases_eq b 0) [
  | inl is ↦ end_from-zero end at b bytes is ∙ sym (ap (end_behind end at) (logged-zero b bytes is))
  | inr other ↦ elim (cases_eq b 10) [
    | inl feed ↦ end_from-feed end at b bytes feed ∙ ends (at + 1) (at + 1) bytes ∙ end_behind-feed end at (logged bytes) ∙ sym (ap (end_behind end at) (logged-feed b bytes feed))
    | inr no_feed ↦ end_from-other end at b bytes other no_feed ∙ ends end (at + 1) bytes ∙ end_behind-byte end at b (logged bytes) ∙ sym (ap (end_behind end at) (logged-other b bytes other no_feed))
  ]
]

size : (lines : List (List ℕ)) → end_behind 0 0 lines ≡ length (joined lines)
size [] = refl
size (line ∷ lines) = omega arith

pub end_from-is : (bytes : List ℕ) → end_from 0 0 bytes ≡ length (joined (logged bytes))
end_from-is bytes = ends 0 0 bytes ∙ size (logged bytes)

-- a file is its lines, and what counts for nothing
pub record Parts (file : List ℕ) : Type 0 where
  pub rest : List ℕ
  pub split : file ≡ joined (logged file) ++ rest
  pub nothing : logged rest ≡ []

with_byte_parts : (b : ℕ) (bytes : List ℕ) (lines : List (List ℕ)) → logged bytes ≡ lines → logged (b ∷ bytes) ≡ with_byte_if b lines → Parts bytes → Parts (b ∷ bytes)
with_byte_parts b bytes [] are is parts = record { rest = b ∷ bytes; split = ap (λ (ls : List (List ℕ)). joined ls ++ (b ∷ bytes)) (sym is); nothing = is }
with_byte_parts b bytes (line ∷ lines) are is parts = record {
  rest = parts.rest;
  split = ap (λ (l : List ℕ). b ∷ l) (parts.split ∙ ap (λ (ls : List (List ℕ)). joined ls ++ parts.rest) are) ∙ ap (λ (ls : List (List ℕ)). joined ls ++ parts.rest) (sym is);
  nothing = parts.nothing;
}

pub parts : (file : List ℕ) → Parts file
parts [] = record { rest = []; split = refl; nothing = refl }
parts (b ∷ bytes) = elim (cases_eq b 0) [
  | inl is ↦ record { rest = b ∷ bytes; split = ap (λ (ls : List (List ℕ)). joined ls ++ (b ∷ bytes)) (sym (logged-zero b bytes is)); nothing = logged-zero b bytes is }
  | inr other ↦ elim (cases_eq b 10) [
    | inl feed ↦
        let behind_it = parts bytes in
        record {
          rest = behind_it.rest;
          split = (λ i. feed i ∷ behind_it.split i) ∙ ap (λ (ls : List (List ℕ)). joined ls ++ behind_it.rest) (sym (logged-feed b bytes feed));
          nothing = behind_it.nothing;
        }
    | inr no_feed ↦ with_byte_parts b bytes (logged bytes) refl (logged-other b bytes other no_feed) (parts bytes)
  ]
]

-- a file whose rest is bytes 0
module _ (file : List ℕ) (at_end n : ℕ) (is_end : at_end ≡ length (joined (logged file))) (is_rest : at_end + n ≡ length file) where
  abbrev lines : List (List ℕ)
  lines = logged file

  pub end_within : length (joined lines) ≤ length file
  end_within = omega arith

  pub zeroed : written_over file at_end (zeros n) ≡ joined lines ++ zeros n
  zeroed =
      let front : take at_end file ≡ joined lines = ap (take at_end) (parts file).split ∙ take_at (joined lines) (parts file).rest at_end (sym is_end) in
      let back : drop (at_end + length (zeros n)) file ≡ [] = drop_all (at_end + length (zeros n)) file (omega (arith, is_rest, length-replicate {A = ℕ} n 0)) in
      ap (λ (l : List ℕ). l ++ zeros n ++ drop (at_end + length (zeros n)) file) front
      ∙ ap (λ (l : List ℕ). joined lines ++ zeros n ++ l) back
      ∙ append-nil (joined lines ++ zeros n)

  pub logged-zeroed : logged (written_over file at_end (zeros n)) ≡ lines
  logged-zeroed = ap logged zeroed ∙ logged-zeros lines n (AreLines-logged file)

  pub at_rest-zeroed : IsAtRest (written_over file at_end (zeros n))
  at_rest-zeroed = record { room = n; is = zeroed ∙ ap (λ (ls : List (List ℕ)). joined ls ++ zeros n) (sym logged-zeroed) }

-- the walk over the bytes stops at a 0, or at the end
pub ended_here : (bytes : List ℕ) (i end : ℕ) → end_from end i (drop i bytes) ≡ end_from 0 0 bytes → i < length bytes → get_or bytes i 0 ≡ 0 → end ≡ length (joined (logged bytes))
ended_here bytes i end read within is =
    sym (ap (end_from end i) (drop_more bytes i 0 within) ∙ end_from-zero end i (get_or bytes i 0) (drop (i + 1) bytes) is) ∙ read ∙ end_from-is bytes

pub ended_last : (bytes : List ℕ) (i end : ℕ) → end_from end i (drop i bytes) ≡ end_from 0 0 bytes → length bytes ≤ i → end ≡ length (joined (logged bytes))
ended_last bytes i end read past = sym (ap (end_from end i) (drop_all i bytes past)) ∙ read ∙ end_from-is bytes
