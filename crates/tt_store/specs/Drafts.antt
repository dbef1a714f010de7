-- What is ready to be published, and what publishing it does to a worker.
use Rattle.std.specs.Prelude.{◌≡◌, ℕ, ◌+◌, ◌-◌, nat_le, nat_lt, ◌&&◌, ◌⊎◌, if◌then◌else◌, List, [], ◌++◌, drop, length, Option, None, Some, Result, Ok, Err}
use Rattle.std.specs.declared.alloc.AllocError.{AllocError}
use Rattle.tt_values.specs.Tables.{Tables}
use Rattle.tt_db.specs.declared.limits.Limits.{Limits}
use Rattle.tt_db.specs.declared.event.Event.{Event}
use Rattle.tt_db.specs.declared.event.Entry.{Entry}
use Rattle.tt_db.specs.declared.outcome.Outcome.{Outcome}
use Rattle.tt_db.specs.State.{after}
use Rattle.tt_db.specs.Database.{Database}
use Rattle.tt_store.specs.declared.call.Draft.{Draft}
use Rattle.tt_store.specs.declared.call.Call.{Call}
use Rattle.tt_store.specs.declared.store.Attempt.{Attempt}
use Rattle.tt_store.specs.declared.store.Attempt.TheVariants as attempts
use Rattle.tt_store.specs.declared.errors.Unread.{Unread}
use Rattle.tt_store.specs.declared.errors.Unread.TheVariants as unread
use Rattle.tt_store.specs.declared.errors.Unreached.{Unreached}
use Rattle.tt_store.specs.declared.errors.Unreached.TheVariants as unreached
use Rattle.tt_store.specs.declared.errors.StoreError.{StoreError}
use Rattle.tt_store.specs.declared.errors.StoreError.TheVariants as errors
use Rattle.tt_store.specs.History.{entries_by}
use Rattle.tt_store.specs.Calls.{events_of, numbers_from, Reaches}
use Rattle.tt_store.specs.Workers.{WorkerState, Looks, Publishes, IsRefused, own_entries, database_at}

-- what the events of a call lead to, from what a worker has seen; none, where there are no events
abbrev pub IsDraft : Tables → Limits → Call → WorkerState → Option Draft → Type 0
IsDraft tables limits call w None = events_of call (after limits w.seen) ≡ []
IsDraft tables limits call w (Some d) = Reaches (database_at tables limits w.seen) w.number (events_of call (after limits w.seen)) d.for_worker d.outcome

-- a history goes on from what a worker has seen by entries of its own
abbrev pub IsMadeBy : WorkerState → List Entry → Type 0
IsMadeBy w history = (made : List Event) × (history ≡ w.seen ++ entries_by w.number made)

-- a worker sees a history that goes on from what it had seen, and the places of what is new are its own
pub record Adds (old new : WorkerState) (history : List Entry) : Type 0 where
  pub number : new.number ≡ old.number
  pub seen : new.seen ≡ history
  pub own : new.own ≡ old.own ++ numbers_from (length old.seen + 1) (length history - length old.seen)
  pub entries : own_entries new ≡ own_entries old ++ drop (length old.seen) history

-- what a worker adds is counted: the total of the ledger grows by the number of its entries
abbrev pub AddsCounted : WorkerState → WorkerState → List Entry → ℕ → ℕ → Type 0
AddsCounted old new history before total = Adds old new history × (total ≡ before + (length history - length old.seen))

-- nothing is added: the worker and the total of the ledger stay
abbrev pub AddsNothing : WorkerState → WorkerState → ℕ → ℕ → Type 0
AddsNothing old new before total = (new ≡ old) × (total ≡ before)

-- a database is published whole, by a worker that had seen all of the history; or nothing is
abbrev pub Commits : WorkerState → WorkerState → List Entry → List Entry → Database → Outcome → Result (Option Outcome) AllocError → Type 0
Commits old new before now db outcome (Ok (Some o)) = (o ≡ outcome) × (before ≡ old.seen) × (now ≡ db.history) × Adds old new db.history
Commits old new before now db outcome (Ok None) = (new ≡ old) × (now ≡ before)
Commits old new before now db outcome (Err e) = (new ≡ old) × (now ≡ before)

-- a try to publish: it is done, or it is to be tried again, or it is refused
abbrev pub Tries : Tables → Limits → Call → WorkerState → WorkerState → Result Attempt StoreError → Type 0
Tries tables limits call old new (Ok (attempts.Done outcome)) = Publishes tables limits call old new outcome
Tries tables limits call old new (Ok attempts.Again) = Looks old new
Tries tables limits call old new (Err error) = IsRefused tables limits call old new error

-- a draft is published whole; or it comes too late, and is to be tried again; or there is no memory for it
abbrev pub CommitsOrRetries : WorkerState → WorkerState → Database → Outcome → Result Attempt StoreError → Type 0
CommitsOrRetries old new db outcome (Ok (attempts.Done o)) = (o ≡ Some outcome) × Adds old new db.history
CommitsOrRetries old new db outcome (Ok attempts.Again) = new ≡ old
CommitsOrRetries old new db outcome (Err e) = (e ≡ errors.Memory) × (new ≡ old)

-- a call publishes, or is refused
abbrev pub PublishesOrRefuses : Tables → Limits → Call → WorkerState → WorkerState → Result (Option Outcome) StoreError → Type 0
PublishesOrRefuses tables limits call old new (Ok outcome) = Publishes tables limits call old new outcome
PublishesOrRefuses tables limits call old new (Err error) = IsRefused tables limits call old new error

-- of the numbers of entries that the worker had seen before, that it has read, and that the store has under its lock: `Raced` where it
-- has read more than the store has, and the store has no fewer than the worker had seen before; else `NoReading`
abbrev pub race : ℕ → ℕ → ℕ → StoreError
race before read latest = if nat_le before latest && nat_lt latest read then errors.Raced read latest else errors.NoReading

-- why a worker doesn't get to see the whole history: it has read more than the store has under its lock, or it has no reading, and then
-- sees what it had seen, or no memory
abbrev pub IsMissed : List Entry → List Entry → List Entry → StoreError → Type 0
IsMissed latest before seen (errors.Db e) = ⊥
IsMissed latest before seen (errors.Raced r t) = errors.Raced r t ≡ race (length before) (length seen) (length latest)
IsMissed latest before seen errors.NoReading = (seen ≡ before) ⊎ (errors.NoReading ≡ race (length before) (length seen) (length latest))
IsMissed latest before seen errors.Memory = Unit {0}

-- the answer of the last try, under the lock
abbrev pub answer_of : Result (Option Outcome) AllocError → Result (Option Outcome) StoreError
answer_of (Ok (Some o)) = Ok (Some o)
answer_of (Ok None) = Err errors.NoReading
answer_of (Err e) = Err errors.Memory

-- the result of a try without the lock
abbrev pub attempt_of : Result (Option Outcome) AllocError → Result Attempt StoreError
attempt_of (Ok (Some o)) = Ok (attempts.Done (Some o))
attempt_of (Ok None) = Ok attempts.Again
attempt_of (Err e) = Err errors.Memory

-- the error for what is in the way of events
abbrev pub error_of : Unreached → StoreError
error_of (unreached.Db e) = errors.Db e
error_of unreached.Memory = errors.Memory

-- the error where a worker has no reading
abbrev pub error_of_read : Unread → StoreError
error_of_read unread.NoReading = errors.NoReading
error_of_read unread.Memory = errors.Memory
