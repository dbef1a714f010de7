-- Closed generations as a database keeps them.
use Rattle.std.specs.Prelude.{ℕ, List, [], ◌∷◌, length}
use Rattle.tt_values.specs.Tables.{Tables}
use Rattle.tt_generations.specs.TwoGenerations.{TwoGenerations, Repairing}
use Rattle.tt_db.specs.State.{ClosedGeneration}

-- a closed generation that is kept: its number, and the tables of two generations just before the switch, of which it is the current one
pub record KeptGeneration : Type 0 where
  pub number : ℕ
  pub generations : TwoGenerations

-- the tables of two generations just before the switch that closed a generation: the repair had done all slots
abbrev pub before_switch : Tables → ClosedGeneration → TwoGenerations
before_switch tables c = record { catalog = tables; slots = c.slots; phase = Repairing c.edits (length c.slots) }

-- a closed generation as it is kept
abbrev pub kept_generation : Tables → ClosedGeneration → KeptGeneration
kept_generation tables c = record { number = c.number; generations = before_switch tables c }

-- the number of the oldest generation that can be read: of the first one that is kept, or of the current one where none is
abbrev pub oldest_kept : List KeptGeneration → ℕ → ℕ
oldest_kept [] current = current
oldest_kept (c ∷ kept) current = c.number
