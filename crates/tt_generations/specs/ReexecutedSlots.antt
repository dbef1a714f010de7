-- The numbers of the slots that a repair re-executed.
use Rattle.std.specs.Prelude.{◌≡◌, ℕ, zero, suc, nat_lt, not, Bool, true, List, [], ◌∷◌, ◌++◌, slice_get, if◌then◌else◌}
use Rattle.std.specs.Option.{option_map_or}

-- the numbers, counted from 1, of those of the first n slots that a test holds of. The test counts slots from 0
abbrev pub numbers_of : (ℕ → Bool) → ℕ → List ℕ
numbers_of test zero = []
numbers_of test (suc n) = if test n then numbers_of test n ++ suc n ∷ [] else numbers_of test n

-- whether the item at a place is above a number, or there is none
abbrev pub begins_above : List ℕ → ℕ → ℕ → Bool
begins_above numbers number place = option_map_or (λ first. nat_lt number first) (slice_get numbers place) true

-- whether the item before a place is there and isn't above a number, or the place is the first
unfoldable pub ends_up_to : List ℕ → ℕ → ℕ → Bool
ends_up_to numbers number zero = true
ends_up_to numbers number (suc i) = not (begins_above numbers number i)

-- a place divides rising numbers: those up to a number stand before it, and those above from it on
pub record DividesAt (numbers : List ℕ) (number place : ℕ) : Type 0 where
  pub before : ends_up_to numbers number place ≡ true
  pub behind : begins_above numbers number place ≡ true
