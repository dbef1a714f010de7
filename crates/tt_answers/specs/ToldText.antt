-- The slots, times and generations of a database as they are printed: as a session tells them.
use Rattle.std.specs.Prelude.{ℕ, List}
use Rattle.tt_requests.specs.Numbers.{Numbering, told_time, told_generation}
use Rattle.tt_grammar.specs.JsonText.{Member, number_member}

-- a member whose value is a slot, or a time
abbrev pub time_member : Numbering → List ℕ → ℕ → Member
time_member numbering name own = number_member name (told_time numbering own).number

-- a member whose value is the number of a generation
abbrev pub generation_member : Numbering → List ℕ → ℕ → Member
generation_member numbering name own = number_member name (told_generation numbering own).number
