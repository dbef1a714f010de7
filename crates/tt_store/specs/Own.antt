-- The entries that a worker made, by their places in what it has seen.
use Rattle.std.specs.Prelude.{ℕ, ◌<◌, List, [], ◌∷◌, filter_map}
use Rattle.tt_db.specs.declared.event.Entry.{Entry}
use Rattle.tt_db.specs.Database.{nth_item}

-- the entries of a history at these places
abbrev pub entries_at : List Entry → List ℕ → List Entry
entries_at history places = filter_map (λ place. nth_item history place) places

-- each number is higher than the one before it, and the first higher than this one
abbrev pub RisesAbove : ℕ → List ℕ → Type 0
RisesAbove number [] = Unit {0}
RisesAbove number (x ∷ xs) = (number < x) × RisesAbove x xs
