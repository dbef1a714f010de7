-- Bytes 0 behind a place of a file, piece by piece.
use Rattle.std.proofs.Common.{◌≡◌, ℕ, zero, suc, ◌+◌, ◌-◌, ◌≤◌, List, [], ◌∷◌, ◌++◌, length, take, drop, refl, sym, ◌∙◌, ap, arith, append_assoc, length-append, length-drop, take-append-drop}
use Rattle.std.proofs.lemmas.List.{length-replicate, length-take-le, drop-drop}
use Rattle.tt_log.specs.Lines.{zeros}
use Rattle.tt_log.specs.Crash.{written_over}

-- the bytes are written from the front on
abbrev pub cover : List ℕ → List ℕ → List ℕ
cover file [] = file
cover [] (b ∷ bytes) = []
cover (x ∷ file) (b ∷ bytes) = b ∷ cover file bytes

abbrev pub put : ℕ → List ℕ → List ℕ → List ℕ
put zero file bytes = cover file bytes
put (suc at) [] bytes = []
put (suc at) (x ∷ file) bytes = x ∷ put at file bytes

is_cover : (file bytes : List ℕ) → length bytes ≤ length file → bytes ++ drop (length bytes) file ≡ cover file bytes
is_cover file [] le = refl
is_cover [] (b ∷ bytes) le = absurd (omega arith)
is_cover (x ∷ file) (b ∷ bytes) le = ap (λ (l : List ℕ). b ∷ l) (is_cover file bytes (omega arith))

pub is_put : (at : ℕ) (file bytes : List ℕ) → at + length bytes ≤ length file → written_over file at bytes ≡ put at file bytes
is_put zero file bytes le = let same : 0 + length bytes ≡ length bytes = omega arith in ap (λ (n : ℕ). bytes ++ drop n file) same ∙ is_cover file bytes (omega arith)
is_put (suc at) [] bytes le = absurd (omega arith)
is_put (suc at) (x ∷ file) bytes le =
    let same : suc at + length bytes ≡ suc (at + length bytes) = omega arith in
    ap (λ (n : ℕ). (x ∷ take at file) ++ bytes ++ drop n (x ∷ file)) same ∙ ap (λ (l : List ℕ). x ∷ l) (is_put at file bytes (omega arith))

pub length-over : (file bytes : List ℕ) (at : ℕ) → at + length bytes ≤ length file → length (written_over file at bytes) ≡ length file
length-over file bytes at room =
    omega (
      arith,
      room,
      length-append (take at file ++ bytes) (drop (at + length bytes) file),
      length-append (take at file) bytes,
      length-take-le at file (omega arith),
      length-drop (at + length bytes) file,
    )

-- bytes 0 behind bytes 0
cover_more : (k m : ℕ) (file : List ℕ) → k + m ≤ length file → put k (cover file (zeros k)) (zeros m) ≡ cover file (zeros (k + m))
cover_more zero m file le = let same : zero + m ≡ m = omega arith in sym (ap (λ (n : ℕ). cover file (zeros n)) same)
cover_more (suc k) m [] le = absurd (omega arith)
cover_more (suc k) m (x ∷ file) le =
    let same : suc k + m ≡ suc (k + m) = omega arith in
    ap (λ (l : List ℕ). 0 ∷ l) (cover_more k m file (omega arith)) ∙ sym (ap (λ (n : ℕ). cover (x ∷ file) (zeros n)) same)

put_more : (end k m : ℕ) (file : List ℕ) → (end + k) + m ≤ length file → put (end + k) (put end file (zeros k)) (zeros m) ≡ put end file (zeros (k + m))
put_more zero k m file le = let same : zero + k ≡ k = omega arith in ap (λ (n : ℕ). put n (cover file (zeros k)) (zeros m)) same ∙ cover_more k m file (omega arith)
put_more (suc end) k m [] le = absurd (omega arith)
put_more (suc end) k m (x ∷ file) le =
    let same : suc end + k ≡ suc (end + k) = omega arith in
    ap (λ (n : ℕ). put n (x ∷ put end file (zeros k)) (zeros m)) same ∙ ap (λ (l : List ℕ). x ∷ l) (put_more end k m file (omega arith))

length-zeros : (n : ℕ) → length (zeros n) ≡ n
length-zeros n = length-replicate {A = ℕ} n 0

pub over_more : (file : List ℕ) (end at k m : ℕ) → at ≡ end + k → at + m ≤ length file → written_over (written_over file end (zeros k)) at (zeros m) ≡ written_over file end (zeros (k + m))
over_more file end at k m is_at le =
    let first : end + length (zeros k) ≤ length file = omega (arith, le, is_at, length-zeros k) in
    let then : at + length (zeros m) ≤ length (written_over file end (zeros k)) = omega (arith, le, length-zeros m, length-over file (zeros k) end first) in
    let all : end + length (zeros (k + m)) ≤ length file = omega (arith, le, is_at, length-zeros (k + m)) in
    is_put at (written_over file end (zeros k)) (zeros m) then
    ∙ ap (λ (f : List ℕ). put at f (zeros m)) (is_put end file (zeros k) first)
    ∙ ap (λ (n : ℕ). put n (put end file (zeros k)) (zeros m)) is_at
    ∙ put_more end k m file (omega (arith, le, is_at))
    ∙ sym (is_put end file (zeros (k + m)) all)

-- what is there already
pub over_same : (file piece : List ℕ) (at m : ℕ) → at + m ≤ length file → piece ≡ take m (drop at file) → length piece ≡ m → written_over file at piece ≡ file
over_same file piece at m within is long =
    let same : at + length piece ≡ at + m = omega (arith, long) in
    append_assoc (take at file) piece (drop (at + length piece) file)
    ∙ ap (λ (n : ℕ). take at file ++ (piece ++ drop n file)) same
    ∙ ap (λ (l : List ℕ). take at file ++ (piece ++ l)) (sym (drop-drop m at file))
    ∙ ap (λ (l : List ℕ). take at file ++ (l ++ drop m (drop at file))) is
    ∙ ap (λ (l : List ℕ). take at file ++ l) (take-append-drop m (drop at file))
    ∙ take-append-drop at file

-- one piece more, which is there already or is written
pub clear_more : (file piece : List ℕ) (from at n : ℕ) → from ≤ at → at + n ≤ length file → file ≡ written_over file from (zeros (at - from)) → piece ≡ take n (drop at file) → length piece ≡ n
    → piece ≡ zeros (length piece) → file ≡ written_over file from (zeros ((at + n) - from))
clear_more file piece from at n behind within was is long none =
    let k = at - from in
    let is_at : at ≡ from + k = omega (arith, behind) in
    let all : k + n ≡ (at + n) - from = omega (arith, behind) in
    let zero_piece : zeros n ≡ piece = sym (none ∙ ap zeros long) in
    sym (
    ap (λ (m : ℕ). written_over file from (zeros m)) (sym all)
    ∙ sym (over_more file from at k n is_at within)
    ∙ ap (λ (f : List ℕ). written_over f at (zeros n)) (sym was)
    ∙ ap (λ (b : List ℕ). written_over file at b) zero_piece
    ∙ over_same file piece at n within is long)
