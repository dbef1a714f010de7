-- The calls that publish: the events that they make, what refuses these, and their outcomes.
use Rattle.std.specs.Prelude.{◌≡◌, ℕ, zero, suc, ◌+◌, min, List, [], ◌∷◌, ◌++◌, fold, replicate, Option, None, Some, if◌then◌else◌}
use Rattle.std.specs.Option.{option_or}
use Rattle.tt_values.specs.Tables.{Tables}
use Rattle.tt_generations.specs.TwoGenerations.{is_repairing}
use Rattle.tt_db.specs.declared.limits.Limits.{Limits}
use Rattle.tt_db.specs.declared.event.Event.{Event}
use Rattle.tt_db.specs.declared.event.Event.TheVariants as events
use Rattle.tt_db.specs.declared.outcome.Outcome.{Outcome}
use Rattle.tt_db.specs.declared.errors.DbError.{DbError}
use Rattle.tt_db.specs.State.{State, slots_left, refusal, next_state, outcome_of}
use Rattle.tt_db.specs.Database.{Database, state_of}
use Rattle.tt_store.specs.declared.errors.Unreached.{Unreached}
use Rattle.tt_store.specs.declared.errors.Unreached.TheVariants as unreached
use Rattle.tt_store.specs.History.{entries_by}
use Rattle.tt_store.specs.declared.call.Call.{Call}
use Rattle.tt_store.specs.declared.call.Call.TheVariants as calls

-- a number of steps
abbrev pub steps : ℕ → List Event
steps n = replicate n events.Step

-- steps, and at most one event behind them
abbrev pub planned : ℕ → Option Event → List Event
planned n None = steps n
planned n (Some event) = steps n ++ event ∷ []

-- how many steps a call makes that asks for at most this number: no more than the repair has slots left. Where no repair is under
-- way it makes one, which is then refused
abbrev pub steps_wanted : ℕ → State → ℕ
steps_wanted most S = if is_repairing S.phase then min most (slots_left S) else 1

-- the events that a call makes of a state
abbrev pub events_of : Call → State → List Event
events_of (calls.One event) S = planned 0 (Some event)
events_of (calls.Steps most) S = planned (steps_wanted most S) None
events_of calls.Finish S = planned (slots_left S) (Some events.Switch)

-- the state after events that aren't refused
abbrev pub state_after : Limits → State → List Event → State
state_after limits S made = fold (next_state limits) S made

-- the first refusal that events meet, one after another
abbrev pub first_refused : Tables → Limits → State → List Event → Option DbError
first_refused tables limits S [] = None
first_refused tables limits S (e ∷ made) = option_or (refusal tables limits S e) (first_refused tables limits (next_state limits S e) made)

-- the outcome of the last of events that aren't refused, if there is one
abbrev pub last_outcome : Tables → Limits → State → List Event → Option Outcome
last_outcome tables limits S [] = None
last_outcome tables limits S (e ∷ []) = Some (outcome_of tables S e)
last_outcome tables limits S (e ∷ d ∷ made) = last_outcome tables limits (next_state limits S e) (d ∷ made)

-- consecutive numbers: the first one, and how many there are
abbrev pub numbers_from : ℕ → ℕ → List ℕ
numbers_from first zero = []
numbers_from first (suc n) = first ∷ numbers_from (first + 1) n

-- the database after events of a worker
abbrev pub with_events : Database → ℕ → List Event → Database
with_events db worker made = record db { history = db.history ++ entries_by worker made }

-- events of a worker, none of which is refused, lead from one database to another; the outcome is that of the last
pub record Reaches (from : Database) (worker : ℕ) (made : List Event) (to : Database) (outcome : Outcome) : Type 0 where
  pub accepted : first_refused from.catalog from.limits (state_of from) made ≡ None
  pub db : to ≡ with_events from worker made
  pub outcome_is : last_outcome from.catalog from.limits (state_of from) made ≡ Some outcome

-- why events don't lead to a database: the first that is refused, or memory
abbrev pub IsInWay : Database → List Event → Unreached → Type 0
IsInWay from made (unreached.Db e) = first_refused from.catalog from.limits (state_of from) made ≡ Some e
IsInWay from made unreached.Memory = Unit {0}
