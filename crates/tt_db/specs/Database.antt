-- A database as contracts see it: what it refuses, what it answers and what it becomes.
use Rattle.std.specs.Prelude.{◌≡◌, ℕ, zero, suc, ◌≤◌, ◌==◌, ℤ, Bool, false, List, [], ◌∷◌, ◌++◌, map, length, find, nat_lt, slice_get, Option, None, Some, Result, if◌then◌else◌}
use Rattle.std.specs.Option.{option_map}
use Rattle.tt_values.specs.declared.row.Row.{Row}
use Rattle.tt_values.specs.declared.row_id.RowId.{RowId}
use Rattle.tt_values.specs.declared.statement.Select.{Select}
use Rattle.tt_values.specs.declared.reply.Reply.{Reply}
use Rattle.tt_values.specs.Tables.{Tables, IsCatalog}
use Rattle.tt_values.specs.Content.{Content, row_at}
use Rattle.tt_values.specs.Effect.{answer_of}
use Rattle.tt_values.specs.RowWrites.{Slots, content_of}
use Rattle.tt_versions.specs.Sides.{RowsOverTime}
use Rattle.tt_repair_laws.specs.Edits.{edited_slots}
use Rattle.tt_repair_laws.specs.Due.{is_due}
use Rattle.tt_repair_laws.specs.Laws.{IsSameSlot}
use Rattle.tt_generations.specs.declared.slot.Slot.{Slot}
use Rattle.tt_generations.specs.declared.progress.Progress.{Progress}
use Rattle.tt_generations.specs.KeptSlots.{slot_at}
use Rattle.tt_generations.specs.TwoGenerations.{Phase, Idle, Repairing, TwoGenerations, progress_of, slots_edited_by, next_slot_at, dirty_rows_of, is_repairing, done_of, IsWithin}
use Rattle.tt_db.specs.declared.limits.Limits.{Limits}
use Rattle.tt_db.specs.declared.event.Event.{Event}
use Rattle.tt_db.specs.declared.event.Event.TheVariants as events
use Rattle.tt_db.specs.declared.event.Entry.{Entry}
use Rattle.tt_db.specs.declared.outcome.Outcome.{Outcome}
use Rattle.tt_db.specs.declared.errors.DbError.{DbError}
use Rattle.tt_db.specs.declared.errors.ReadError.{ReadError}
use Rattle.tt_db.specs.Limits.{Fits}
use Rattle.tt_db.specs.State.{State, after, now_of, current_at, next_at, oldest_of, refusal, outcome_of, IsLegal}
use Rattle.tt_db.specs.ClosedGenerations.{KeptGeneration, before_switch, kept_generation}
use Rattle.tt_db.specs.History.{write_places, last_beginner}
use Rattle.tt_db.specs.RightAnswers.{right_select, right_select_at, right_select_in, right_preview, right_preview_at}

-- a database: its tables, its limits and its history
pub record Database : Type 0 where
  pub catalog : Tables
  pub limits : Limits
  pub history : List Entry

-- the state of the sequential table after the history
abbrev pub state_of : Database → State
state_of db = after db.limits db.history

-- the slots of the current generation
abbrev pub current_slots : Database → Slots
current_slots db = (state_of db).slots

-- the number of the oldest generation that can be read
abbrev pub oldest_in : Database → ℕ
oldest_in db = oldest_of (state_of db).closed (state_of db).generation

-- the tables of two generations in a state
abbrev pub generations_in : Tables → State → TwoGenerations
generations_in tables S = record { catalog = tables; slots = S.slots; phase = S.phase }

-- the tables of two generations of which one that can be read is the current one: those of the state, or those just before the switch that closed it
abbrev pub generations_at : Database → ℕ → Option TwoGenerations
generations_at db number =
    if number == (state_of db).generation then Some (generations_in db.catalog (state_of db))
    else option_map (before_switch db.catalog) (find (λ c. c.number == number) (state_of db).closed)

-- the current time
abbrev pub now_in : Database → ℕ
now_in db = now_of (state_of db)

-- the database with one more entry
abbrev pub with_entry : Database → Entry → Database
with_entry db entry = record db { history = db.history ++ entry ∷ [] }

-- why the database refuses an event, if it does
abbrev pub refusal_of : Database → Event → Option DbError
refusal_of db event = refusal db.catalog db.limits (state_of db) event

-- the outcome of an event that isn't refused
abbrev pub outcome_for : Database → Event → Outcome
outcome_for db event = outcome_of db.catalog (state_of db) event

-- the right answer to a select now
abbrev pub right_answer : Database → Select → Result Reply ReadError
right_answer db select = right_select db.catalog (current_at (state_of db) (now_in db)) select

-- the right answer to a select at a time
abbrev pub right_answer_at : Database → Select → ℕ → Result Reply ReadError
right_answer_at db select time = right_select_at db.catalog (state_of db) select time

-- the right answer to a select at a time in a generation
abbrev pub right_answer_in : Database → ℕ → Select → ℕ → Result Reply ReadError
right_answer_in db number select time = right_select_in db.catalog (state_of db) number select time

-- the right answer to a select of the next generation
abbrev pub right_preview_of : Database → Select → Result Reply ReadError
right_preview_of db select = right_preview db.catalog (state_of db) select

-- the right answer to a select of the next generation at a time
abbrev pub right_preview_at_of : Database → Select → ℕ → Result Reply ReadError
right_preview_at_of db select time = right_preview_at db.catalog (state_of db) select time

-- what a select answers at a time
abbrev pub answer_for : Database → Select → ℕ → Reply
answer_for db select time = answer_of select (current_at (state_of db) time)

-- what a select answers in the next generation, at the last slot that the repair has done
abbrev pub preview_for : Database → Select → Reply
preview_for db select = answer_of select (next_at (state_of db) (done_of (state_of db).phase))

-- what a select answers in the next generation at a time
abbrev pub preview_at_for : Database → Select → ℕ → Reply
preview_at_for db select time = answer_of select (next_at (state_of db) time)

-- the slot of a number, counted from 1, with its replies
abbrev pub slot_of : Database → ℕ → Option Slot
slot_of db number = slot_at (current_slots db) number

-- the slot of a number, counted from 1, as edited and with its replies in the next generation, if a repair has done it
abbrev pub next_slot_of : Database → ℕ → Option Slot
next_slot_of db number = next_slot_at (state_of db).phase (current_slots db) number

-- how far the repair is, if one is under way
abbrev pub repair_of : Database → Option Progress
repair_of db = progress_of (generations_in db.catalog (state_of db))

-- the worker that began the repair under way, if one is under way
abbrev pub repair_worker_of : Database → Option ℕ
repair_worker_of db = if is_repairing (state_of db).phase then Some (last_beginner db.history) else None

-- for each key and time, the current row of a table
abbrev pub current_rows_of : Database → ℕ → RowsOverTime
current_rows_of db table key time = row_at (current_at (state_of db) time table) key

-- the current content at each time
abbrev pub current_of_db : Database → ℕ → Content
current_of_db db time = current_at (state_of db) time

-- a row in the current generation at a time, if its table is declared and it is there
abbrev pub row_in : Database → RowId → ℕ → Option Row
row_in db row time = if nat_lt row.table (length db.catalog) then row_at (current_of_db db time row.table) row.key else None

-- up to the last slot that the repair has done, a side shows the rows of a table in the next generation
abbrev pub ShowsNextRows : Database → ℕ → RowsOverTime → Type 0
ShowsNextRows db table rows = (key : ℤ) (time : ℕ) → time ≤ done_of (state_of db).phase → rows key time ≡ row_at (next_at (state_of db) time table) key

-- the dirty rows of a table
abbrev pub dirty_rows_in : Database → ℕ → ℤ → Bool
dirty_rows_in db = dirty_rows_of db.catalog (state_of db).phase (current_slots db)

-- slot n + 1 of a repair is due, or is the same in both generations, with the same effect and the same replies
abbrev pub IsDueOrSame : Tables → Phase → Slots → Type 0
IsDueOrSame tables Idle W = Unit {0}
IsDueOrSame tables (Repairing E n) W = is_due tables W E n ≡ false → IsSameSlot W (edited_slots W E) n

-- the slot of a step that isn't due is the same in both generations
abbrev pub MissesNoSlot : Database → Event → Type 0
MissesNoSlot db events.Step = IsDueOrSame db.catalog (state_of db).phase (current_slots db)
MissesNoSlot db event = Unit {0}

-- the slots of a database are these, so that it has their content at each time
pub record HasSlots (db : Database) (W : Slots) : Type 0 where
  pub slots : current_slots db ≡ W
  pub contents : (time : ℕ) → current_of_db db time ≡ content_of W time

-- what becomes of the current contents: an action leaves those up to now. The beginning of a repair, a step and the end of a repair
-- leave all slots, and with them the content at each time. After a switch the slots are the edited ones, among them those of the actions made meanwhile
abbrev pub ShowsCurrent : Database → Event → Database → Type 0
ShowsCurrent before (events.Write action) next = (time : ℕ) → time ≤ now_in before → current_of_db next time ≡ current_of_db before time
ShowsCurrent before events.Switch next = HasSlots next (slots_edited_by (state_of before).phase (current_slots before))
ShowsCurrent before event next = HasSlots next (current_slots before)

-- the item of a number, counted from 1
abbrev pub nth_item : {X : Type 0} → List X → ℕ → Option X
nth_item items zero = None
nth_item items (suc n) = slice_get items n

-- the place of the entry that made a slot: slot t was made by the t-th write of the history
abbrev pub place_of : Database → ℕ → Option ℕ
place_of db slot = nth_item (write_places 1 db.history) slot

-- a history is legal, and the slots, the generation, what is under way and the closed generations are those that it leads to
pub record IsConsistent (limits : Limits) (history : List Entry) (G : TwoGenerations) (number : ℕ) (kept : List KeptGeneration) : Type 0 where
  pub catalog : IsCatalog G.catalog
  pub fits : Fits limits
  pub legal : IsLegal G.catalog limits history
  pub events : (after limits history).events ≡ length history
  pub few_slots : now_of (after limits history) ≤ limits.slots
  pub few_events : (after limits history).events ≤ limits.events
  pub few_generations : (after limits history).generation ≤ (after limits history).events
  pub within : IsWithin G.phase G.slots
  pub slots : G.slots ≡ (after limits history).slots
  pub phase : G.phase ≡ (after limits history).phase
  pub generation : number ≡ (after limits history).generation
  pub closed : kept ≡ map (kept_generation G.catalog) (after limits history).closed
