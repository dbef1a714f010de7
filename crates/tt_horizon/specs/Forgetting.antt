-- A database that forgets what lies before a time: its history afterwards, and when it refuses.
use Rattle.std.specs.Prelude.{ℕ, nat_lt, List, [], ◌++◌, map, length, drop, Option, None, Some, unwrap_or, if◌then◌else◌}
use Rattle.std.specs.List.{filter_map, zip}
use Rattle.tt_values.specs.declared.action.Action.{Action}
use Rattle.tt_values.specs.Action.{action_of}
use Rattle.tt_db.specs.declared.event.Event.TheVariants as events
use Rattle.tt_db.specs.declared.event.Entry.{Entry}
use Rattle.tt_db.specs.History.{is_write}
use Rattle.tt_db.specs.Database.{Database, state_of, now_in, current_slots, current_of_db}
use Rattle.tt_generations.specs.TwoGenerations.{is_repairing}
use Rattle.tt_horizon.specs.Ground.{ground_of_content}
use Rattle.tt_horizon.specs.declared.forgetting.ForgetError.{ForgetError}
use Rattle.tt_horizon.specs.declared.forgetting.ForgetError.TheVariants as errors

-- the worker of an entry, if that is an action
abbrev pub worker_of_write : Entry → Option ℕ
worker_of_write e = if is_write e.event then Some e.worker else None

-- the workers of the slots, in order
abbrev pub workers_of : List Entry → List ℕ
workers_of history = filter_map worker_of_write history

-- the actions that insert the rows of the current generation at a time
abbrev pub ground_of : Database → ℕ → List Action
ground_of db time = ground_of_content (length db.catalog) (current_of_db db time)

-- an action as an entry of a worker
abbrev pub entry_of : ℕ → Action → Entry
entry_of worker action = record { worker = worker; event = events.Write action }

-- the worker of the ground
abbrev pub ground_worker : ℕ
ground_worker = 0

-- the slots behind a time as entries of their workers, each with its action in the current generation, or that of no writes
abbrev pub entries_behind : Database → ℕ → List Entry
entries_behind db time = map (λ p. entry_of p.0 (unwrap_or p.1 (action_of []))) (zip (drop time (workers_of db.history)) (drop time (current_slots db)))

-- the history of a database that has forgotten what lies before a time
abbrev pub forgotten_history : Database → ℕ → List Entry
forgotten_history db time = map (entry_of ground_worker) (ground_of db time) ++ entries_behind db time

-- the database that has forgotten what lies before a time
abbrev pub forgotten_db : Database → ℕ → Database
forgotten_db db time = record db { history = forgotten_history db time }

-- why a database doesn't forget, memory aside
abbrev pub forget_refusal : Database → ℕ → Option ForgetError
forget_refusal db time =
    if is_repairing (state_of db).phase then Some errors.Repairing else (
    if nat_lt (now_in db) time then Some (errors.Later (now_in db)) else None)

-- the refusal that an error stands for. Out of memory is none
abbrev pub refusal_of_error : ForgetError → Option ForgetError
refusal_of_error errors.Memory = None
refusal_of_error e = Some e
