-- The stamps of the slots behind the ground.
use Rattle.std.specs.Prelude.{◌≢◌, ℕ, List, length, Option, None, Some}
use Rattle.tt_db.specs.Database.{nth_item}

-- there are none, or the last slot has one
abbrev pub EndsStamped : List (Option ℕ) → Type 0
EndsStamped stamps = nth_item stamps (length stamps) ≢ Some None
