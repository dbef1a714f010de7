-- What holds of every legal history.
use Rattle.std.specs.Prelude.{◌≡◌, ◌≤◌, ◌<◌, ℕ, suc, ℤ, List, [], ◌∷◌, length, Option, None, Some}
use Rattle.tt_values.specs.declared.row.Row.{Row}
use Rattle.tt_values.specs.Row.{first_int}
use Rattle.tt_values.specs.Tables.{Tables, IsCatalog}
use Rattle.tt_values.specs.Content.{Content, row_at}
use Rattle.tt_values.specs.RowWrites.{Slots, content_of}
use Rattle.tt_generations.specs.TwoGenerations.{Repairing, done_of}
use Rattle.tt_repair_laws.specs.declared.edit.Edit.{Edit}
use Rattle.tt_db.specs.declared.limits.Limits.{Limits}
use Rattle.tt_db.specs.declared.event.Event.{Event}
use Rattle.tt_db.specs.declared.event.Event.TheVariants as events
use Rattle.tt_db.specs.declared.event.Entry.{Entry}
use Rattle.tt_db.specs.History.{write_places}
use Rattle.tt_db.specs.Database.{Database, state_of, current_slots, with_entry, repair_worker_of}
use Rattle.tt_db.specs.Causes.{cause_of, cause_in_of}
use Rattle.tt_db.specs.Differences.{right_diff, right_diff_in}
use Rattle.tt_db.specs.State.{State, ClosedGeneration, after, now_of, current_at, next_at, slots_in, oldest_of, IsLegal}

-- each row of a content begins with an Int, which is the key that it is stored under
abbrev pub IsKeyed : Content → Type 0
IsKeyed X = (table : ℕ) (key : ℤ) (row : Row) → row_at (X table) key ≡ Some row → first_int row.values ≡ Some key

-- this holds after each legal history: at every time of each generation that can be read, and in the next generation at the last slot done
pub record RowsHaveTheirKeys : Type 0 where
  pub readable : (tables : Tables) (limits : Limits) (history : List Entry) → IsCatalog tables → IsLegal tables limits history
      → (number : ℕ) (W : Slots) → slots_in (after limits history) number ≡ Some W → (time : ℕ) → IsKeyed (content_of W time)
  pub current : (tables : Tables) (limits : Limits) (history : List Entry) → IsCatalog tables → IsLegal tables limits history
      → (time : ℕ) → IsKeyed (current_at (after limits history) time)
  pub next : (tables : Tables) (limits : Limits) (history : List Entry) → IsCatalog tables → IsLegal tables limits history
      → IsKeyed (next_at (after limits history) (done_of (after limits history).phase))

-- closed generations are numbered one after another, from a number up to the one before the current one
abbrev pub AreNumbered : ℕ → ℕ → List ClosedGeneration → Type 0
AreNumbered number current [] = number ≡ current
AreNumbered number current (c ∷ closed) = (c.number ≡ number) × AreNumbered (suc number) current closed

-- the closed generations of a state are the last ones before the current one, and no more than are kept
pub record KeepsLastGenerations (limits : Limits) (S : State) : Type 0 where
  pub numbered : AreNumbered (oldest_of S.closed S.generation) S.generation S.closed
  pub few : length S.closed ≤ limits.keep

-- this holds after each history
abbrev pub LastGenerationsAreKept : Type 0
LastGenerationsAreKept = (limits : Limits) (history : List Entry) → KeepsLastGenerations limits (after limits history)

-- each slot was made by one write of the history, which no repair changes: there are as many writes as slots
abbrev pub EachSlotHasItsPlace : Type 0
EachSlotHasItsPlace = (limits : Limits) (history : List Entry) → length (write_places 1 history) ≡ now_of (after limits history)

-- the worker of the repair under way after an event that a worker asked for, where this one had begun the repair under way before it, if there was one
abbrev pub repair_worker_by : Option ℕ → ℕ → Event → Option ℕ
repair_worker_by before worker (events.Write action) = before
repair_worker_by before worker (events.Begin edits) = Some worker
repair_worker_by before worker events.Step = before
repair_worker_by before worker events.Switch = None
repair_worker_by before worker events.Abort = None

-- a repair is of the worker that began it, until it is switched to or given up
abbrev pub RepairsKeepTheirWorker : Type 0
RepairsKeepTheirWorker = (db : Database) (e : Entry) → repair_worker_of (with_entry db e) ≡ repair_worker_by (repair_worker_of db) e.worker e.event

-- a database of which the repair under way has done all slots
abbrev pub HasDoneAll : Database → Type 0
HasDoneAll db = (E : List Edit) × ((state_of db).phase ≡ Repairing E (length (current_slots db)))

-- the database after a switch that a worker asked for
abbrev pub switched : Database → ℕ → Database
switched db worker = with_entry db (record { worker = worker; event = events.Switch })

-- where closed generations are kept, a repair that has done all slots is told of after its switch as it was just before it: why it re-executed its slots, and which rows differ
pub record SwitchesKeepWhatIsTold : Type 0 where
  pub causes : (db : Database) (worker number : ℕ) → 0 < db.limits.keep → HasDoneAll db
      → cause_in_of (switched db worker) (state_of db).generation number ≡ cause_of db number
  pub differences : (db : Database) (worker table : ℕ) → 0 < db.limits.keep → HasDoneAll db
      → right_diff_in (switched db worker) (state_of db).generation table ≡ right_diff db table
