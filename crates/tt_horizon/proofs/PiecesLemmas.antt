-- Lists that are cut into pieces.
use Rattle.std.proofs.Common.{◌≡◌, ℕ, zero, suc, ◌*◌, ◌<◌, ◌≤◌, List, [], ◌∷◌, ◌++◌, length, take, drop, flat_map, All, refl, ap, ◌∙◌, arith, length-drop, length-take, take-append-drop}
use Rattle.tt_horizon.specs.Ground.{some_pieces, in_pieces}

module _ {X : Type 0} (n : ℕ) (some_items : 0 < n) where
  -- enough pieces of a list make up the list
  joined_pieces : (most : ℕ) (items : List X) → length items ≤ most → flat_map (λ piece. piece) (some_pieces most n items) ≡ items
  joined_pieces zero [] h = refl
  joined_pieces zero (item ∷ items) h = let none : ⊥ = omega (arith, h) in absurd none
  joined_pieces (suc most) [] h = refl
  joined_pieces (suc most) (item ∷ items) h =
      let all = item ∷ items in
      let fewer : length (drop n all) ≤ most = omega (arith, length-drop n all, h, some_items) in
      ap (λ rest. take n all ++ rest) (joined_pieces most (drop n all) fewer) ∙ take-append-drop n all

  -- the pieces of a list make up the list
  pub flat_map-in_pieces : (items : List X) → flat_map (λ piece. piece) (in_pieces n items) ≡ items
  flat_map-in_pieces items = joined_pieces (length items) items (omega arith)

  -- a list of at most n items for each of a count has at most so many pieces, however many there may be
  few_pieces : (most : ℕ) (items : List X) (count : ℕ) → length items ≤ n * count → length (some_pieces most n items) ≤ count
  few_pieces zero items count h = omega arith
  few_pieces (suc most) [] count h = omega arith
  few_pieces (suc most) (item ∷ items) zero h = let none : ⊥ = omega (arith, h) in absurd none
  few_pieces (suc most) (item ∷ items) (suc count) h =
      let all = item ∷ items in
      let fewer : length (drop n all) ≤ n * count = omega (arith, length-drop n all, h) in
      omega (arith, few_pieces most (drop n all) count fewer)

  -- a list of at most n items for each of a count has at most so many pieces
  pub length-in_pieces : (items : List X) (count : ℕ) → length items ≤ n * count → length (in_pieces n items) ≤ count
  length-in_pieces items count h = few_pieces (length items) items count h

  -- the pieces are not empty and have at most n items
  pub length-piece : (most : ℕ) (items : List X) → All (λ piece. (0 < length piece) × (length piece ≤ n)) (some_pieces most n items)
  length-piece zero items k d within = let none : ⊥ = omega (arith, within) in absurd none
  length-piece (suc most) [] k d within = let none : ⊥ = omega (arith, within) in absurd none
  length-piece (suc most) (item ∷ items) zero d within =
      let taken = length-take n (item ∷ items) in
      (omega (arith, taken, some_items), omega (arith, taken))
  length-piece (suc most) (item ∷ items) (suc k) d within = length-piece most (drop n (item ∷ items)) k d (omega (arith, within))
