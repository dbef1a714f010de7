-- Why no call of a document, and no entry of its repair, is refused.
use Rattle.std.specs.Prelude.{◌≡◌, ℕ, ◌+◌, ◌<◌, ◌≤◌, true, false, List, [], ◌∷◌, None}
use Rattle.tt_values.specs.Tables.{Tables}
use Rattle.tt_generations.specs.TwoGenerations.{is_repairing}
use Rattle.tt_db.specs.State.{now_of, slots_left}
use Rattle.tt_db.specs.Limits.{usual_limits}
use Rattle.tt_db.specs.Database.{Database, state_of}
use Rattle.tt_document.specs.declared.document.Call.{Call}
use Rattle.tt_document.specs.Document.{ask_fault}

-- a database with room for a further action
pub record HasRoom (db : Database) : Type 0 where
  pub slots : now_of (state_of db) < db.limits.slots
  pub events : (state_of db).events < db.limits.events

-- the tables accept the statement of each call
abbrev pub AreAccepted : Tables → List Call → Type 0
AreAccepted tables [] = Unit {0}
AreAccepted tables (call ∷ calls) = (ask_fault tables call.ask ≡ None) × AreAccepted tables calls

-- after n calls no repair is under way: each call took at most one slot, and each slot is one entry
pub record IsBefore (calls : ℕ) (db : Database) : Type 0 where
  pub limits : db.limits ≡ usual_limits
  pub idle : is_repairing (state_of db).phase ≡ false
  pub slots : now_of (state_of db) ≤ calls
  pub events : (state_of db).events ≤ now_of (state_of db)

-- after n calls a repair is under way: each call took at most one slot, and each slot is one entry and at most one step, beside the
-- beginning of the repair
pub record IsUnderWay (calls : ℕ) (db : Database) : Type 0 where
  pub limits : db.limits ≡ usual_limits
  pub repairing : is_repairing (state_of db).phase ≡ true
  pub slots : now_of (state_of db) ≤ calls
  pub events : (state_of db).events + slots_left (state_of db) ≤ now_of (state_of db) + now_of (state_of db) + 1
