-- What holds of slots that have forgotten what lies before a time, and what a database keeps that has.
use Rattle.std.specs.Prelude.{◌≡◌, ℕ, ◌<◌, ◌≤◌, true, false, List, [], ◌++◌, map, length, All, Option, Some, unwrap_or}
use Rattle.std.specs.Ordering.{int_cmp}
use Rattle.std.specs.FinMap.Entries as sorted
use Rattle.tt_values.specs.declared.action.Action.{Action}
use Rattle.tt_values.specs.declared.reply.Reply.{Reply}
use Rattle.tt_values.specs.Row.{key_of}
use Rattle.tt_values.specs.Tables.{Tables, IsCatalog}
use Rattle.tt_values.specs.Content.{RowsByKey, Content}
use Rattle.tt_values.specs.Action.{action_of}
use Rattle.tt_values.specs.RowWrites.{Slots, slot_after, slot_replies, content_of}
use Rattle.tt_repair_laws.specs.declared.edit.Edit.{Edit}
use Rattle.tt_repair_laws.specs.Edits.{slot_number, edited_slots}
use Rattle.tt_repair_laws.specs.Due.{content_after, is_due, dirty_after, reexecuted_count}
use Rattle.tt_generations.specs.TwoGenerations.{Idle, is_repairing}
use Rattle.tt_db.specs.Limits.{Fits}
use Rattle.tt_db.specs.State.{State, IsLegal}
use Rattle.tt_db.specs.Database.{Database, state_of, now_in, current_slots, current_of_db}
use Rattle.tt_horizon.specs.Ground.{ground_of_content, ground_writes, on_ground, moved, moved_edit}
use Rattle.tt_horizon.specs.Forgetting.{ground_of, forgotten_db}

-- actions that leave a content where they are carried out on empty tables
abbrev pub Leaves : List Action → Content → Type 0
Leaves G X = content_of (map Some G) (length G) ≡ X

-- an edit is of a slot behind a time
abbrev pub IsBehind : ℕ → Edit → Type 0
IsBehind time e = time < slot_number e

-- the replies to a slot; a cancelled one has as many as the action of no writes
abbrev pub replies_or_none : Option Action → Content → List Reply
replies_or_none slot X = unwrap_or (slot_replies slot X) []

-- From the time on, slots on a ground have the contents of the slots that haven't forgotten.
abbrev pub ForgettingKeepsContents : Type 0
ForgettingKeepsContents = (W : Slots) (G : List Action) (time u : ℕ) → Leaves G (content_of W time) → time ≤ u → u ≤ length W →
    content_of (on_ground G W time) (moved time (length G) u) ≡ content_of W u

-- Behind the ground a repair is the same after n slots: what is dirty, which slots are due, how many were re-executed, the contents on both sides and the replies.
pub record IsSameBehind (tables : Tables) (W V : Slots) (E F : List Edit) (n m : ℕ) : Type 0 where
  pub dirty : dirty_after tables V F m ≡ dirty_after tables W E n
  pub due : is_due tables V F m ≡ is_due tables W E n
  pub reexecuted : reexecuted_count tables V F m ≡ reexecuted_count tables W E n
  pub current : content_after V m ≡ content_after W n
  pub edited : content_after (edited_slots V F) m ≡ content_after (edited_slots W E) n
  pub replies : replies_or_none (slot_after V m) (content_after V m) ≡ replies_or_none (slot_after W n) (content_after W n)
  pub edited_replies : replies_or_none (slot_after (edited_slots V F) m) (content_after (edited_slots V F) m) ≡ replies_or_none (slot_after (edited_slots W E) n) (content_after (edited_slots W E) n)

-- After forgetting, with whatever slots follow, this holds of each repair that edits only slots behind the time.
abbrev pub ForgettingKeepsRepairs : Type 0
ForgettingKeepsRepairs = (tables : Tables) (W : Slots) (G : List Action) (time : ℕ) (X : Slots) (E : List Edit) (n : ℕ) →
    Leaves G (content_of W time) → time ≤ length W → All (IsBehind time) E → time ≤ n → n ≤ length (W ++ X) →
    let k = length G in
    IsSameBehind tables (W ++ X) (on_ground G W time ++ X) E (map (moved_edit time k) E) n (moved time k n)

-- No slot of the ground is due in a repair that edits only slots behind the time.
abbrev pub GroundIsNeverDue : Type 0
GroundIsNeverDue = (tables : Tables) (W : Slots) (G : List Action) (time : ℕ) (X : Slots) (E : List Edit) (i : ℕ) →
    All (IsBehind time) E → i < length G → is_due tables (on_ground G W time ++ X) (map (moved_edit time (length G)) E) i ≡ false

-- the rows of a table stand by rising key, each under its own
pub record AreKeyed (rows : RowsByKey) : Type 0 where
  pub rising : sorted.is_sorted int_cmp rows ≡ true
  pub own : All (λ e. key_of e.1 ≡ e.0) rows

-- a content has rows only in the tables below this number, and each table is keyed
pub record IsWithinTables (tables : ℕ) (X : Content) : Type 0 where
  pub keyed : (table : ℕ) → AreKeyed (X table)
  pub none : (table : ℕ) → tables ≤ table → X table ≡ []

-- the ground of a content within its tables leaves this content
abbrev pub GroundLeavesContent : Type 0
GroundLeavesContent = (tables : ℕ) (X : Content) → IsWithinTables tables X → Leaves (ground_of_content tables X) X

-- a slot has no more writes than this
abbrev pub HasFewWrites : ℕ → Option Action → Type 0
HasFewWrites most slot = length (unwrap_or slot (action_of [])).writes ≤ most

-- the ground has no more actions than there were slots up to its time, since each of these inserted at most as many rows as an action of the ground does
abbrev pub GroundIsSmall : Type 0
GroundIsSmall = (tables : ℕ) (W : Slots) (time : ℕ) → All (HasFewWrites ground_writes) W → time ≤ length W → length (ground_of_content tables (content_of W time)) ≤ time

-- the state of a database that has forgotten what lies before a time: its slots stand on the ground, and nothing else has happened yet
abbrev pub state_behind : Database → ℕ → State
state_behind db time = record {
  slots = on_ground (ground_of db time) (current_slots db) time;
  generation = 0;
  events = length (forgotten_db db time).history;
  phase = Idle;
  closed = [];
}

-- A database has forgotten what lies before a time. From this time on it has the contents of the other one, with the slots of the ground in the place of those up to it.
pub record Forgets (db forgotten : Database) (time size : ℕ) : Type 0 where
  pub is : forgotten ≡ forgotten_db db time
  pub size_is : size ≡ length (ground_of db time)
  pub few : size ≤ time
  pub legal : IsLegal db.catalog db.limits forgotten.history
  pub state : state_of forgotten ≡ state_behind db time
  pub leaves : Leaves (ground_of db time) (current_of_db db time)
  pub now : now_in forgotten ≡ moved time size (now_in db)
  pub contents : (u : ℕ) → time ≤ u → u ≤ now_in db → current_of_db forgotten (moved time size u) ≡ current_of_db db u
  pub no_more_entries : length forgotten.history ≤ length db.history

-- this holds of every legal history, at each time up to now, while no repair is under way
abbrev pub ForgettingIsSound : Type 0
ForgettingIsSound = (db : Database) (time : ℕ) → IsCatalog db.catalog → Fits db.limits → IsLegal db.catalog db.limits db.history
    → is_repairing (state_of db).phase ≡ false → time ≤ now_in db → Forgets db (forgotten_db db time) time (length (ground_of db time))
