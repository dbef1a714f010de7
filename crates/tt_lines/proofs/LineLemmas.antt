-- A line that is read piece by piece.
use Rattle.std.proofs.Common.{◌≡◌, ℕ, ◌+◌, ◌-◌, ◌≤◌, false, ◌&&◌, min, List, ◌++◌, length, take, take_all, append-nil, length-append, sym, ap, ◌∙◌, arith, ltb-false, inl, inr}
use Rattle.std.proofs.Math.Seq.{take-append-add}
use Rattle.std.proofs.lemmas.Bool.{cases_lt}
use Rattle.std.proofs.lemmas.List.{take-append-le, take_min}
use Rattle.std.proofs.lemmas.List.Folds.{list_all-append}
use Rattle.tt_requests.specs.Lines.{is_blank, is_blank_byte, is_too_long}
use Rattle.tt_lines.specs.Lines.{max_bytes_kept}

pub take-append : (n : ℕ) (xs ys : List ℕ) → take n (xs ++ ys) ≡ take n xs ++ take (n - length xs) ys
take-append n xs ys = elim (cases_lt n (length xs)) [
  | inl less ↦
      let few : n ≤ length xs = omega (arith, less) in
      let none : n - length xs ≡ 0 = omega (arith, less) in
      take-append-le n xs ys few ∙ sym (append-nil (take n xs)) ∙ ap (λ k. take n xs ++ take k ys) (sym none)
  | inr more ↦
      let whole : length xs + (n - length xs) ≡ n = omega (arith, more) in
      ap (λ k. take k (xs ++ ys)) (sym whole) ∙ take-append-add xs ys (n - length xs) ∙ ap (λ l. l ++ take (n - length xs) ys) (sym (take_all n xs more))
]

-- the first bytes that are kept, with those of a further piece
pub kept-more : (n : ℕ) (bytes more old new : List ℕ) (len count : ℕ) → len ≡ min (length bytes) n → count ≡ min (length more) (n - len) → old ≡ take n bytes → new ≡ old ++ take count more
    → new ≡ take n (bytes ++ more)
kept-more n bytes more old new len count e c o a =
    let few : count ≡ min (n - length bytes) (length more) = omega (arith, e, c) in
    a ∙ ap (λ l. l ++ take count more) o ∙ ap (λ k. take n bytes ++ take k more) few ∙ ap (λ l. take n bytes ++ l) (take_min (n - length bytes) more) ∙ sym (take-append n bytes more)

pub len-more : (n : ℕ) (bytes more : List ℕ) (len count : ℕ) → len ≡ min (length bytes) n → count ≡ min (length more) (n - len) → len + count ≡ min (length (bytes ++ more)) n
len-more n bytes more len count e c = omega (arith, e, c, length-append bytes more)

pub blank-more : (bytes more : List ℕ) → is_blank (bytes ++ more) ≡ (is_blank bytes && is_blank more)
blank-more bytes more = list_all-append is_blank_byte bytes more

-- a line that isn't too long is kept wholly
pub kept-whole : (bytes kept : List ℕ) → kept ≡ take max_bytes_kept bytes → is_too_long bytes ≡ false → kept ≡ bytes
kept-whole bytes kept e short =
    let few : length bytes ≤ max_bytes_kept = omega (arith, ltb-false _ _ short) in
    e ∙ take_all max_bytes_kept bytes few
