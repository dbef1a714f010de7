-- Lines and their line feeds.
use Rattle.std.specs.Prelude.{◌≡◌, ℕ, ◌<◌, ◌==◌, Bool, not, true, List, [], ◌∷◌, ◌++◌, length, take, slice_index}
use Rattle.std.specs.List.{list_all}

-- whether none of the bytes is a line feed
abbrev pub has_no_feed : List ℕ → Bool
has_no_feed bytes = list_all (λ b. not (b == 10)) bytes

-- lines with a line feed behind each
abbrev pub joined : List (List ℕ) → List ℕ
joined [] = []
joined (line ∷ lines) = line ++ 10 ∷ joined lines

-- the first line feed among these bytes is at this place
pub record HasFirstFeed (bytes : List ℕ) (place : ℕ) : Type 0 where
  pub within : place < length bytes
  pub before : has_no_feed (take place bytes) ≡ true
  pub feed : slice_index bytes place ≡ 10
