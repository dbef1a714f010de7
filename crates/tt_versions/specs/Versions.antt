-- Versions of a row, and the row at a time.
use Rattle.std.specs.Prelude.{◌≡◌, ℕ, ◌≤◌, nat_le, nat_lt, List, [], ◌∷◌, ◌++◌, filter, fold, Option, None}
use Rattle.tt_values.specs.declared.row.Row.{Row}
use Rattle.tt_versions.specs.declared.version.Version.{Version}

-- the versions that started by a time
abbrev pub started_by : ℕ → List Version → List Version
started_by time vs = filter (λ v. nat_le v.start time) vs

-- all of some versions started by a time
abbrev pub HaveStarted : ℕ → List Version → Type 0
HaveStarted time vs = started_by time vs ≡ vs

-- none of some versions started by a time
abbrev pub NoneHasStarted : ℕ → List Version → Type 0
NoneHasStarted time vs = started_by time vs ≡ []

-- the versions that started before a time
abbrev pub started_before : ℕ → List Version → List Version
started_before time vs = filter (λ v. nat_lt v.start time) vs

-- the row of the last version. It is none where that version deleted the row
abbrev pub last_row : List Version → Option Row
last_row vs = fold (λ row v. v.row) None vs

-- the row at a time: that of the last version that started by then
abbrev pub visible_row : ℕ → List Version → Option Row
visible_row time vs = last_row (started_by time vs)

-- a row, or none, is written at a time: its version takes the place of those from then on
abbrev pub with_write : Option Row → ℕ → List Version → List Version
with_write row time vs = started_before time vs ++ record { start = time; row = row } ∷ []

-- rolling back to before a time drops the versions from then on
abbrev pub without_writes_from : ℕ → List Version → List Version
without_writes_from time vs = started_before time vs

-- no version started before a time
abbrev pub AllStartFrom : ℕ → List Version → Type 0
AllStartFrom time [] = Unit {0}
AllStartFrom time (v ∷ vs) = (time ≤ v.start) × AllStartFrom time vs

-- no version started before the one in front of it
abbrev pub StartsRise : List Version → Type 0
StartsRise [] = Unit {0}
StartsRise (v ∷ vs) = AllStartFrom v.start vs × StartsRise vs
