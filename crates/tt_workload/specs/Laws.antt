-- What holds of the lines of all reports.
use Rattle.std.specs.Prelude.{◌≡◌, ℕ, ◌+◌, List, [], ◌∷◌, All, IsSome}
use Rattle.tt_values.specs.Tables.{Tables}
use Rattle.tt_db.specs.State.{State}
use Rattle.tt_records.specs.declared.record.Record.{Record}
use Rattle.tt_records.specs.declared.changed.Changed.{Changed}
use Rattle.tt_records.specs.Changes.{changes_of, next_changes_of}
use Rattle.tt_workload.specs.JsonReport.{place_of_call}

-- these are the records of the calls from this number on
abbrev pub AreFrom : ℕ → List Record → Type 0
AreFrom number [] = Unit {0}
AreFrom number (r ∷ records) = (r.call ≡ number) × AreFrom (number + 1) records

-- the call of a changed reply stands at a slot or a time, by these records. So it has a line as JSON, too
abbrev pub Stands : List Record → Changed → Type 0
Stands records c = IsSome (place_of_call records c.call)

-- each changed reply of the first calls stands somewhere
abbrev pub ChangedCallsStand : Type 0
ChangedCallsStand = (tables : Tables) (S : State) (records : List Record) → AreFrom 1 records → All (Stands records) (changes_of tables S records)

-- and so does each that the repair under way would change
abbrev pub CallsToChangeStand : Type 0
CallsToChangeStand = (tables : Tables) (S : State) (records : List Record) → AreFrom 1 records → All (Stands records) (next_changes_of tables S records)
