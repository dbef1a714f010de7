-- What holds of every numbering.
use Rattle.std.specs.Prelude.{◌≡◌, ℕ, ◌+◌, ◌≤◌, Some}
use Rattle.tt_requests.specs.Numbers.{Numbering, IsNumbering, number_limit, offset, told_time, own_time, told_generation, own_generation}

-- the numbers of a database up to the limit are told exactly, and what they are told as is looked up as the same
pub record IsToldExactly (n : Numbering) (own : ℕ) : Type 0 where
  pub time : (told_time n own).number ≡ own + offset n
  pub own_time : own_time n (told_time n own) ≡ own
  pub generation : (told_generation n own).number ≡ own + n.generations
  pub own_generation : own_generation n (told_generation n own) ≡ Some own

abbrev pub NumbersAreToldExactly : Type 0
NumbersAreToldExactly = (n : Numbering) (own : ℕ) → IsNumbering n → own ≤ number_limit → IsToldExactly n own
