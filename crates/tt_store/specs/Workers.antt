-- A worker as contracts see it, and what calls do to it.
use Rattle.std.specs.Prelude.{◌≡◌, ℕ, ◌+◌, ◌<◌, ◌≤◌, List, [], ◌∷◌, ◌++◌, length, ◌⊎◌, Option, None, Some, Result, Ok, Err, IsOk}
use mathlib.Core.List.{IsPrefix}
use Rattle.tt_values.specs.Tables.{Tables}
use Rattle.tt_values.specs.Check.{select_fault}
use Rattle.tt_values.specs.declared.statement.Select.{Select}
use Rattle.tt_values.specs.declared.reply.Reply.{Reply}
use Rattle.tt_db.specs.declared.limits.Limits.{Limits}
use Rattle.tt_db.specs.declared.event.Entry.{Entry}
use Rattle.tt_db.specs.declared.outcome.Outcome.{Outcome}
use Rattle.tt_db.specs.declared.errors.ReadError.{ReadError}
use Rattle.tt_db.specs.declared.errors.ReadError.TheVariants as read_errors
use Rattle.tt_db.specs.State.{after}
use Rattle.tt_db.specs.Database.{Database}
use Rattle.tt_store.specs.declared.errors.StoreError.{StoreError}
use Rattle.tt_store.specs.declared.errors.StoreError.TheVariants as errors
use Rattle.tt_store.specs.declared.answer.Answer.{Answer}
use Rattle.tt_store.specs.declared.call.Call.{Call}
use Rattle.logbook.specs.Pages.{Book}
use Rattle.tt_store.specs.Published.{Published, IsOf}
use Rattle.tt_store.specs.History.{entries_by, places_of}
use Rattle.tt_store.specs.Own.{entries_at}
use Rattle.tt_store.specs.Calls.{events_of, first_refused, last_outcome, numbers_from}

-- a worker: its number, the front of the one history that it has seen, and the places of the entries that it made
pub record WorkerState : Type 0 where
  pub number : ℕ
  pub seen : List Entry
  pub own : List ℕ

-- the entries that a worker made, by their places in what it has seen
abbrev pub own_entries : WorkerState → List Entry
own_entries w = entries_at w.seen w.own

-- what a worker has seen becomes a front that begins with it. It makes nothing
pub record Looks (old new : WorkerState) : Type 0 where
  pub number : new.number ≡ old.number
  pub seen : IsPrefix old.seen new.seen
  pub own : new.own ≡ old.own
  pub entries : own_entries new ≡ own_entries old

-- a list has these numbers, in their order, and others may stand before, between and behind them
abbrev pub IsAmong : List ℕ → List ℕ → Type 0
IsAmong [] ys = Unit {0}
IsAmong (x ∷ xs) [] = ⊥
IsAmong (x ∷ xs) (y ∷ ys) = ((x ≡ y) × IsAmong xs ys) ⊎ IsAmong (x ∷ xs) ys

-- the database at a front
abbrev pub database_at : Tables → Limits → List Entry → Database
database_at tables limits front = record { catalog = tables; limits = limits; history = front }

-- a read is answered rightly, with the time that it is of. What it is judged on must be reached first: without a reading or memory
-- for that it has no answer, unless the select has a fault, and what the worker has seen stays. Memory may also run out where the
-- right answer is no refusal
abbrev pub AnswersRightly : Tables → Select → Result Reply ReadError → ℕ → WorkerState → WorkerState → Result Answer ReadError → Type 0
AnswersRightly tables q right time old new (Ok answer) = (right ≡ Ok answer.reply) × (answer.time ≡ time)
AnswersRightly tables q right time old new (Err read_errors.NoReading) = (select_fault tables q ≡ None) × (new ≡ old)
AnswersRightly tables q right time old new (Err read_errors.Memory) = (select_fault tables q ≡ None) × ((new ≡ old) ⊎ IsOk right)
AnswersRightly tables q right time old new (Err error) = right ≡ Err error

-- a call publishes. At a front that begins with what the worker had seen, none of its events is refused. The front grows by their
-- entries, with no other entry between them, and the worker's own places by the places of these entries
pub record Publishes (tables : Tables) (limits : Limits) (call : Call) (old new : WorkerState) (outcome : Option Outcome) : Type 0 where
  pub front : List Entry
  pub later : IsPrefix old.seen front
  pub accepted : first_refused tables limits (after limits front) (events_of call (after limits front)) ≡ None
  pub outcome_is : outcome ≡ last_outcome tables limits (after limits front) (events_of call (after limits front))
  pub number : new.number ≡ old.number
  pub seen : new.seen ≡ front ++ entries_by old.number (events_of call (after limits front))
  pub own : new.own ≡ old.own ++ numbers_from (length front + 1) (length (events_of call (after limits front)))
  pub entries : own_entries new ≡ own_entries old ++ entries_by old.number (events_of call (after limits front))

-- why a call publishes nothing: the first of its events that is refused at what the worker has then seen, or what the store couldn't do
abbrev pub IsCause : Tables → Limits → Call → List Entry → List Entry → StoreError → Type 0
IsCause tables limits call before seen (errors.Db e) = first_refused tables limits (after limits seen) (events_of call (after limits seen)) ≡ Some e
IsCause tables limits call before seen (errors.Raced read told) = (read ≡ length seen) × (told < read) × (length before ≤ told)
IsCause tables limits call before seen errors.NoReading = Unit {0}
IsCause tables limits call before seen errors.Memory = Unit {0}

-- a call is refused: the worker makes nothing, and what it has seen may grow
pub record IsRefused (tables : Tables) (limits : Limits) (call : Call) (old new : WorkerState) (error : StoreError) : Type 0 where
  pub looks : Looks old new
  pub cause : IsCause tables limits call old.seen new.seen error

-- what a worker keeps: a database of its store, places of its own entries there, and one part of the ledger, with their number
pub record IsWorker (book : Book) (tables : Tables) (limits : Limits) (number : ℕ) (published : Published) (own : List ℕ) (parts amount : ℕ) : Type 0 where
  pub of : IsOf book tables limits published
  pub among : IsAmong own (places_of number published.db.history)
  pub one_part : parts ≡ 1
  pub counts : amount ≡ length own

-- why nothing was reached that a select could be judged on: the select has a fault, or there is no memory or reading
abbrev pub IsUnreached : Tables → Select → ReadError → Type 0
IsUnreached tables q (read_errors.Statement fault) = select_fault tables q ≡ Some fault
IsUnreached tables q read_errors.NoReading = select_fault tables q ≡ None
IsUnreached tables q read_errors.Memory = select_fault tables q ≡ None
IsUnreached tables q read_errors.NotRepairing = ⊥
IsUnreached tables q (read_errors.Later now) = ⊥
IsUnreached tables q (read_errors.NoGeneration oldest newest) = ⊥

-- an answer with its time
abbrev pub timed : ℕ → Result Reply ReadError → Result Answer ReadError
timed time (Ok reply) = Ok (record { time = time; reply = reply })
timed time (Err error) = Err error
