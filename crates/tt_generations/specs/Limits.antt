-- How many slots there may be.
use Rattle.std.specs.Prelude.{ℕ}

-- the largest number of slots
abbrev pub max_slots : ℕ
max_slots = 1000000
