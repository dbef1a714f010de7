-- A log that is read piece by piece.
use Rattle.std.proofs.Common.{◌≡◌, inl, inr, ℕ, zero, suc, ◌+◌, ◌<◌, ◌≤◌, List, [], ◌∷◌, ◌++◌, length, take, drop, refl, sym, ◌∙◌, ap, arith, append_assoc, length-append, length-take}
use Rattle.std.proofs.lemmas.List.{append-nil, drop-drop, length-take-le}
use Rattle.std.proofs.lemmas.Bool.{cases_eq}
use Rattle.tt_log.specs.Lines.{text, with_byte_if, whole_lines_of, joined, logged, end_behind}
use Rattle.tt_log.proofs.LineLemmas.{text-zero, text-other, whole_lines_of-feed, whole_lines_of-other}

take-nil : (n : ℕ) → take {A = ℕ} n [] ≡ []
take-nil zero = refl
take-nil (suc n) = refl

pub take-add : (n m : ℕ) (xs : List ℕ) → take (n + m) xs ≡ take n xs ++ take m (drop n xs)
take-add zero m xs = let same : zero + m ≡ m = omega arith in ap (λ (k : ℕ). take k xs) same
take-add (suc n) m [] = take-nil (suc n + m) ∙ sym (take-nil m)
take-add (suc n) m (x ∷ xs) =
    let same : suc n + m ≡ suc (n + m) = omega arith in
    ap (λ (k : ℕ). take k (x ∷ xs)) same ∙ ap (λ (l : List ℕ). x ∷ l) (take-add n m xs)

pub take-take : (n m : ℕ) (xs : List ℕ) → n ≤ m → take n (take m xs) ≡ take n xs
take-take zero m xs le = refl
take-take (suc n) zero xs le = absurd (omega arith)
take-take (suc n) (suc m) [] le = refl
take-take (suc n) (suc m) (x ∷ xs) le = ap (λ (l : List ℕ). x ∷ l) (take-take n m xs (omega arith))

-- the bytes before the first 0 are the first ones
pub text-front : (xs : List ℕ) → text xs ≡ take (length (text xs)) xs
text-front [] = refl
text-front (b ∷ xs) = elim (cases_eq b 0) [
  | inl is ↦ text-zero b xs is ∙ sym (ap (λ (l : List ℕ). take (length l) (b ∷ xs)) (text-zero b xs is))
  | inr other ↦
      text-other b xs other
      ∙ ap (λ (l : List ℕ). b ∷ l) (text-front xs)
      ∙ sym (ap (λ (l : List ℕ). take (length l) (b ∷ xs)) (text-other b xs other))
]

pub text-le : (xs : List ℕ) → length (text xs) ≤ length xs
text-le xs = omega (arith, ap length (text-front xs), length-take (length (text xs)) xs)

pub text-split : (n : ℕ) (xs : List ℕ) → n ≤ length (text xs) → text xs ≡ take n xs ++ text (drop n xs)
text-split zero xs le = refl
text-split (suc n) [] le = absurd (omega arith)
text-split (suc n) (b ∷ xs) le = elim (cases_eq b 0) [
  | inl is ↦ absurd (omega (arith, le, ap length (text-zero b xs is)))
  | inr other ↦
      text-other b xs other
      ∙ ap (λ (l : List ℕ). b ∷ l) (text-split n xs (omega (arith, le, ap length (text-other b xs other))))
]

-- those of a piece are among those of the whole
pub text-piece-le : (count : ℕ) (xs : List ℕ) → length (text (take count xs)) ≤ length (text xs)
text-piece-le zero xs = omega arith
text-piece-le (suc count) [] = omega arith
text-piece-le (suc count) (b ∷ xs) = elim (cases_eq b 0) [
  | inl is ↦ omega (arith, ap length (text-zero b (take count xs) is))
  | inr other ↦ omega (arith, text-piece-le count xs, ap length (text-other b (take count xs) other), ap length (text-other b xs other))
]

-- where a piece has a 0, nothing is left behind its bytes before that
pub text-stops : (count : ℕ) (xs : List ℕ) → length (text (take count xs)) < length (take count xs) → text (drop (length (text (take count xs))) xs) ≡ []
text-stops zero xs short = absurd (omega arith)
text-stops (suc count) [] short = absurd (omega arith)
text-stops (suc count) (b ∷ xs) short = elim (cases_eq b 0) [
  | inl is ↦ ap (λ (l : List ℕ). text (drop (length l) (b ∷ xs))) (text-zero b (take count xs) is) ∙ text-zero b xs is
  | inr other ↦
      let same = text-other b (take count xs) other in
      ap (λ (l : List ℕ). text (drop (length l) (b ∷ xs))) same ∙ text-stops count xs (omega (arith, short, ap length same))
]

-- where lines end that go on in further bytes
joined-none : (b : ℕ) (lines : List (List ℕ)) → length (joined lines) ≡ 0 → length (joined (with_byte_if b lines)) ≡ 0
joined-none b [] none = refl
joined-none b (line ∷ lines) none = absurd (omega (arith, none, length-append line (10 ∷ joined lines)))

joined-some : (b : ℕ) (lines : List (List ℕ)) → 0 < length (joined lines) → length (joined (with_byte_if b lines)) ≡ 1 + length (joined lines)
joined-some b [] some = absurd (omega arith)
joined-some b (line ∷ lines) some = omega arith

end_behind-none : (end at : ℕ) (lines : List (List ℕ)) → length (joined lines) ≡ 0 → end_behind end at lines ≡ end
end_behind-none end at [] none = refl
end_behind-none end at (line ∷ lines) none = absurd (omega (arith, none, length-append line (10 ∷ joined lines)))

end_behind-some : (end at : ℕ) (lines : List (List ℕ)) → 0 < length (joined lines) → end_behind end at lines ≡ at + length (joined lines)
end_behind-some end at [] some = absurd (omega arith)
end_behind-some end at (line ∷ lines) some = refl

pub end_behind-is : (end at n new : ℕ) (lines : List (List ℕ)) → n ≡ length (joined lines) → (n ≡ 0 → new ≡ end) → (0 < n → new ≡ at + n) → new ≡ end_behind end at lines
end_behind-is end at zero new lines is none some = none refl ∙ sym (end_behind-none end at lines (sym is))
end_behind-is end at (suc n) new lines is none some =
    let there : 0 < length (joined lines) = omega (arith, is) in
    some (omega arith) ∙ ap (λ (k : ℕ). at + k) is ∙ sym (end_behind-some end at lines there)

pub ends-append : (given more : List ℕ) → length (joined (whole_lines_of (given ++ more))) ≡ end_behind (length (joined (whole_lines_of given))) (length given) (whole_lines_of more)
ends-append [] more = end_behind-is 0 0 (length (joined (whole_lines_of more))) (length (joined (whole_lines_of more))) (whole_lines_of more) refl (λ none. none) (λ some. omega arith)
ends-append (b ∷ given) more =
    let n = length (joined (whole_lines_of more)) in
    let before = length (joined (whole_lines_of given)) in
    let after = length (joined (whole_lines_of (given ++ more))) in
    let further = ends-append given more in
    elim (cases_eq b 10) [
      | inl feed ↦
          let first = ap (λ (ls : List (List ℕ)). length (joined ls)) (whole_lines_of-feed b given feed) in
          let all = ap (λ (ls : List (List ℕ)). length (joined ls)) (whole_lines_of-feed b (given ++ more) feed) in
          end_behind-is _ _ n _ (whole_lines_of more) refl
          (λ none. omega (arith, first, all, further, end_behind-none before (length given) (whole_lines_of more) none))
          (λ some. omega (arith, first, all, further, end_behind-some before (length given) (whole_lines_of more) some))
      | inr other ↦
          let first = ap (λ (ls : List (List ℕ)). length (joined ls)) (whole_lines_of-other b given other) in
          let all = ap (λ (ls : List (List ℕ)). length (joined ls)) (whole_lines_of-other b (given ++ more) other) in
          end_behind-is _ _ n _ (whole_lines_of more) refl
          (λ none. all ∙ with_byte-same b (whole_lines_of (given ++ more)) (whole_lines_of given) (further ∙ end_behind-none before (length given) (whole_lines_of more) none) ∙ sym first)
          (λ some.
          let is = further ∙ end_behind-some before (length given) (whole_lines_of more) some in
          omega (arith, all, is, joined-some b (whole_lines_of (given ++ more)) (omega (arith, is, some))))
    ]
  where
    with_byte-same : (b : ℕ) (lines others : List (List ℕ)) → length (joined lines) ≡ length (joined others) → length (joined (with_byte_if b lines)) ≡ length (joined (with_byte_if b others))
    with_byte-same b [] others same = sym (joined-none b others (sym same))
    with_byte-same b (line ∷ lines) [] same = joined-none b (line ∷ lines) same
    with_byte-same b (line ∷ lines) (other ∷ others) same = omega (arith, same)

-- one piece more
module _ (seen piece : List ℕ) (at count taken : ℕ) (within : at + count ≤ length seen) (is_piece : piece ≡ take count (drop at seen)) (is_taken : taken ≡ length (text piece)) where
  abbrev left : List ℕ
  left = drop at seen

  no_more : taken ≤ length (text left)
  no_more = omega (arith, is_taken, ap (λ (l : List ℕ). length (text l)) is_piece, text-piece-le count left)

  few : taken ≤ count
  few = omega (arith, is_taken, text-le piece, ap length is_piece, length-take count left)

  rest_is : text (drop taken left) ≡ text (drop (at + taken) seen)
  rest_is = ap text (drop-drop taken at seen)

  given : take taken piece ≡ take taken left
  given = ap (take taken) is_piece ∙ take-take taken count left few

  pub given_left : take taken piece ++ text (drop (at + taken) seen) ≡ text left
  given_left =
      ap (λ (l : List ℕ). l ++ text (drop (at + taken) seen)) given
      ∙ ap (λ (l : List ℕ). take taken left ++ l) (sym rest_is)
      ∙ sym (text-split taken left no_more)

  pub read_more : text seen ≡ take at seen ++ text left → text seen ≡ take (at + taken) seen ++ text (drop (at + taken) seen)
  read_more read =
      read
      ∙ ap (λ (l : List ℕ). take at seen ++ l) (sym given_left)
      ∙ ap (λ (l : List ℕ). take at seen ++ (l ++ text (drop (at + taken) seen))) given
      ∙ sym (append_assoc (take at seen) (take taken left) (text (drop (at + taken) seen)))
      ∙ ap (λ (l : List ℕ). l ++ text (drop (at + taken) seen)) (sym (take-add at taken seen))

  pub end_more : (end after : ℕ) → end ≡ length (joined (whole_lines_of (take at seen))) → after ≡ end_behind end at (whole_lines_of (text piece))
      → after ≡ length (joined (whole_lines_of (take (at + taken) seen)))
  end_more end after is_end is_after =
      let as_long : length (take at seen) ≡ at = omega (arith, length-take-le at seen (omega (arith, within))) in
      let lines : text piece ≡ take taken left = text-front piece ∙ ap (λ (n : ℕ). take n piece) (sym is_taken) ∙ given in
      is_after
      ∙ ap (λ (e : ℕ). end_behind e at (whole_lines_of (text piece))) is_end
      ∙ ap (λ (n : ℕ). end_behind (length (joined (whole_lines_of (take at seen)))) n (whole_lines_of (text piece))) (sym as_long)
      ∙ sym (ends-append (take at seen) (text piece))
      ∙ ap (λ (l : List ℕ). length (joined (whole_lines_of (take at seen ++ l)))) lines
      ∙ ap (λ (l : List ℕ). length (joined (whole_lines_of l))) (sym (take-add at taken seen))

  pub none_left : taken < length piece → text (drop (at + taken) seen) ≡ []
  none_left short =
      let n = length (text (take count left)) in
      let same : n ≡ taken = sym (is_taken ∙ ap (λ (l : List ℕ). length (text l)) is_piece) in
      sym rest_is ∙ ap (λ (k : ℕ). text (drop k left)) (sym same) ∙ text-stops count left (omega (arith, same, short, ap length is_piece))

-- all is read
pub end_is : (seen : List ℕ) (at end : ℕ) → text seen ≡ take at seen ++ text (drop at seen) → text (drop at seen) ≡ [] → end ≡ length (joined (whole_lines_of (take at seen)))
    → end ≡ length (joined (logged seen))
end_is seen at end read none is =
    is ∙ ap (λ (l : List ℕ). length (joined (whole_lines_of l))) (sym (read ∙ ap (λ (l : List ℕ). take at seen ++ l) none ∙ append-nil (take at seen)))
