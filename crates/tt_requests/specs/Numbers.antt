-- How a session tells the slots, times and generations of its database, whose own numbers begin anew when it forgets.
use Rattle.std.specs.Prelude.{ℕ, ◌+◌, ◌-◌, ◌^◌, ◌≤◌, ◌<◌, nat_lt, min, Bool, Option, None, Some, if◌then◌else◌}
use Rattle.tt_requests.specs.declared.told.ToldTime.{ToldTime}
use Rattle.tt_requests.specs.declared.told.ToldGeneration.{ToldGeneration}

-- a numbering: the time that was last forgotten up to, how many slots of the database are the ground, and the generation of the last forgetting. The first and the last are as they are told
pub record Numbering : Type 0 where
  pub horizon : ℕ
  pub ground_slots : ℕ
  pub generations : ℕ

-- the numbers are below this, where they are remembered
abbrev pub number_limit : ℕ
number_limit = 2 ^ 63

-- the largest number that is told
abbrev pub max_told : ℕ
max_told = 2 ^ 64 - 1

-- nothing is forgotten yet
abbrev pub nothing_forgotten : Numbering
nothing_forgotten = record { horizon = 0; ground_slots = 0; generations = 0 }

-- how much later the times that are told are than the database's own
abbrev pub offset : Numbering → ℕ
offset n = n.horizon - n.ground_slots

-- a slot, or a time from the horizon on, of the database as it is told
abbrev pub told_time : Numbering → ℕ → ToldTime
told_time n own = record { number = min (own + offset n) max_told }

-- the slot or the time of the database that is told as this
abbrev pub own_time : Numbering → ToldTime → ℕ
own_time n told = told.number - offset n

-- whether a time that is told lies before the horizon
abbrev pub is_forgotten_time : Numbering → ToldTime → Bool
is_forgotten_time n told = nat_lt told.number n.horizon

-- whether a slot that is told lies behind the horizon
abbrev pub is_behind_horizon : Numbering → ToldTime → Bool
is_behind_horizon n told = nat_lt n.horizon told.number

-- a generation of the database as it is told
abbrev pub told_generation : Numbering → ℕ → ToldGeneration
told_generation n own = record { number = min (own + n.generations) max_told }

-- the generation of the database that is told as this, if there can be one
abbrev pub own_generation : Numbering → ToldGeneration → Option ℕ
own_generation n told = if nat_lt told.number n.generations then None else Some (told.number - n.generations)

-- the ground has no more slots than were forgotten, and what is told is below the limit
pub record IsNumbering (n : Numbering) : Type 0 where
  pub within : n.ground_slots ≤ n.horizon
  pub time : n.horizon < number_limit
  pub generation : n.generations < number_limit
