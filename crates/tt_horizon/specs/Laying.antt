-- How the ground is laid: one write after another, in actions of it. And how a slot is carried out again behind it.
use Rattle.std.specs.Prelude.{◌≡◌, ℕ, ◌<◌, ◌≤◌, List, [], ◌∷◌, ◌++◌, map, length, take, drop, unwrap_or, option_and_then}
use Rattle.tt_values.specs.declared.statement.Write.{Write}
use Rattle.tt_values.specs.declared.action.Action.{Action}
use Rattle.tt_values.specs.Action.{action_of}
use Rattle.tt_db.specs.declared.event.Entry.{Entry}
use Rattle.tt_db.specs.Database.{Database, with_entry, slot_of}
use Rattle.tt_horizon.specs.Ground.{ground_writes}
use Rattle.tt_horizon.specs.declared.ground.Ground.{Ground}
use Rattle.tt_horizon.specs.Forgetting.{ground_of, entry_of, ground_worker}
use Rattle.tt_horizon.specs.GroundEntries.{IsGround}

-- the entry of an action of the ground, of these writes
abbrev pub ground_entry : List Write → Entry
ground_entry ws = entry_of ground_worker (action_of ws)

-- writes are cut into the actions of these entries, n each, and the last ones, fewer than n, wait for the next action
abbrev pub AreLaid : ℕ → List Write → List Entry → List Write → Type 0
AreLaid n ws [] waiting = (ws ≡ waiting) × (length waiting < n)
AreLaid n ws (e ∷ entries) waiting = (n ≤ length ws) × (e ≡ ground_entry (take n ws)) × AreLaid n (drop n ws) entries waiting

-- the writes that were added so far
abbrev pub HasWrites : Ground → List Write → Type 0
HasWrites g ws = AreLaid ground_writes ws g.db.history g.waiting.items

-- more writes are added behind those that there were
pub record AddsWrites (before after : Ground) (ws : List Write) : Type 0 where
  pub added : (earlier : List Write) → HasWrites before earlier → HasWrites after (earlier ++ ws)
  pub catalog : after.db.catalog ≡ before.db.catalog
  pub limits : after.db.limits ≡ before.db.limits
  pub ground : IsGround before.db → IsGround after.db

-- a database with the writes that wait, if there are any, as its last action
abbrev pub with_last : Database → List Write → Database
with_last db [] = db
with_last db (w ∷ ws) = with_entry db (ground_entry (w ∷ ws))

-- the database of the ground alone
abbrev pub database_of_ground : Database → ℕ → Database
database_of_ground db time = record db { history = map (entry_of ground_worker) (ground_of db time) }

-- a database with more entries behind those that it has
abbrev pub with_entries : Database → List Entry → Database
with_entries db entries = record db { history = db.history ++ entries }

-- the action of the slot of a number in the current generation, or that of no writes
abbrev pub action_at : Database → ℕ → Action
action_at db number = unwrap_or (option_and_then (λ s. s.action) (slot_of db number)) (action_of [])
