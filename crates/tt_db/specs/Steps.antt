-- Steps of a repair that are made together: one after another, up to the first that is refused.
use Rattle.std.specs.Prelude.{ℕ, zero, suc, ◌==◌, Bool, is_some, Option, None, Some, if◌then◌else◌}
use Rattle.tt_db.specs.declared.event.Event.TheVariants as events
use Rattle.tt_db.specs.declared.event.Entry.{Entry}
use Rattle.tt_db.specs.declared.outcome.Outcome.{Outcome}
use Rattle.tt_db.specs.declared.outcome.Outcome.TheVariants.{Stepped}
use Rattle.tt_db.specs.declared.errors.DbError.{DbError}
use Rattle.tt_db.specs.Database.{Database, with_entry, refusal_of, outcome_for}

-- a step that a worker makes
abbrev pub step_by : ℕ → Entry
step_by worker = record { worker = worker; event = events.Step }

-- the database with this many steps of a worker, one after another
abbrev pub with_steps_by : ℕ → Database → ℕ → Database
with_steps_by worker db zero = db
with_steps_by worker db (suc n) = with_entry (with_steps_by worker db n) (step_by worker)

-- how many steps are made where this number is asked for: those before the first that is refused
abbrev pub steps_made : ℕ → Database → ℕ → ℕ
steps_made worker db zero = 0
steps_made worker db (suc most) = if is_some (refusal_of db events.Step) then 0 else suc (steps_made worker (with_entry db (step_by worker)) most)

-- the outcome of the last of this many steps, after which the repair has done this many slots, and which re-executed its slot or not
abbrev pub last_step : ℕ → ℕ → Bool → Option Outcome
last_step zero done rerun = None
last_step (suc n) done rerun = Some (Stepped done rerun)

-- the outcome of the last of this many steps
abbrev pub last_outcome : ℕ → Database → ℕ → Option Outcome
last_outcome worker db zero = None
last_outcome worker db (suc n) = Some (outcome_for (with_steps_by worker db n) events.Step)

-- why no more steps were made than this number, where this many were asked for: the refusal of the next one, on the database that they leave
abbrev pub refusal_behind : ℕ → ℕ → Database → Option DbError
refusal_behind most made db = if made == most then None else refusal_of db events.Step
