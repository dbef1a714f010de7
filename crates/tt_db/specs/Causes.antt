-- Why a repair re-executed a slot, by the history of a database.
use Rattle.std.specs.Prelude.{ℕ, ◌==◌, length, find, Option, if◌then◌else◌}
use Rattle.std.specs.Option.{option_and_then}
use Rattle.tt_values.specs.Tables.{Tables}
use Rattle.tt_causes.specs.Causes.{Cause}
use Rattle.tt_generations.specs.TwoGenerations.{Repairing}
use Rattle.tt_generations.specs.SlotCauses.{cause_at, next_redone_at}
use Rattle.tt_db.specs.State.{ClosedGeneration}
use Rattle.tt_db.specs.Database.{Database, state_of, current_slots}

-- of the slots that the repair under way has done, the cause of the one of a number, counted from 1, if it was re-executed
abbrev pub cause_of : Database → ℕ → Option Cause
cause_of db number = cause_at db.catalog (state_of db).phase (current_slots db) number

-- the same of the repair that closed a generation, which did all of its slots
abbrev pub cause_of_closed : Tables → ClosedGeneration → ℕ → Option Cause
cause_of_closed tables c number = cause_at tables (Repairing c.edits (length c.slots)) c.slots number

-- the same of a generation: for the current one of the repair under way, for a closed one that is kept of the repair that closed it
abbrev pub cause_in_of : Database → ℕ → ℕ → Option Cause
cause_in_of db generation number =
    if generation == (state_of db).generation then cause_of db number
    else option_and_then (λ c. cause_of_closed db.catalog c number) (find (λ c. c.number == generation) (state_of db).closed)

-- of the slots that the repair under way has done, the number of the first one behind a number that it re-executed: the first that has a cause
abbrev pub next_redone_of : Database → ℕ → Option ℕ
next_redone_of db number = next_redone_at db.catalog (state_of db).phase (current_slots db) number

-- the same of the repair that closed a generation
abbrev pub next_redone_of_closed : Tables → ClosedGeneration → ℕ → Option ℕ
next_redone_of_closed tables c number = next_redone_at tables (Repairing c.edits (length c.slots)) c.slots number

-- the same of a generation: for the current one of the repair under way, for a closed one that is kept of the repair that closed it
abbrev pub next_redone_in_of : Database → ℕ → ℕ → Option ℕ
next_redone_in_of db generation number =
    if generation == (state_of db).generation then next_redone_of db number
    else option_and_then (λ c. next_redone_of_closed db.catalog c number) (find (λ c. c.number == generation) (state_of db).closed)
