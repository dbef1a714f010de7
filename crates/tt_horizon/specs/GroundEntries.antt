-- Which slots of a database are a ground: actions that insert rows, and nothing else.
use Rattle.std.specs.Prelude.{◌≡◌, ℕ, ◌&&◌, not, Bool, true, false, is_none, List, [], ◌∷◌, take}
use Rattle.std.specs.List.{list_all}
use Rattle.tt_values.specs.declared.reply.Reply.{Reply}
use Rattle.tt_values.specs.declared.reply.Reply.TheVariants as replies
use Rattle.tt_values.specs.declared.statement.Write.{Write}
use Rattle.tt_values.specs.declared.statement.Write.TheVariants as writes
use Rattle.tt_values.specs.declared.action.Action.{Action}
use Rattle.tt_values.specs.Action.{replies_of}
use Rattle.tt_db.specs.declared.event.Event.TheVariants as events
use Rattle.tt_db.specs.declared.event.Entry.{Entry}
use Rattle.tt_db.specs.declared.outcome.Outcome.{Outcome}
use Rattle.tt_db.specs.declared.outcome.Outcome.TheVariants as outcomes
use Rattle.tt_db.specs.Database.{Database, with_entry, now_in, current_of_db, refusal_of}
use Rattle.tt_horizon.specs.Forgetting.{entry_of, ground_worker}

abbrev pub is_insert : Write → Bool
is_insert (writes.Insert table row) = true
is_insert write = false

abbrev pub is_inserted : Reply → Bool
is_inserted replies.Inserted = true
is_inserted reply = false

-- whether there are no writes
abbrev pub is_empty : List Write → Bool
is_empty [] = true
is_empty (w ∷ ws) = false

-- whether each write of an action was answered `inserted`
abbrev pub has_inserted : Outcome → Bool
has_inserted (outcomes.Written slot replies) = list_all is_inserted replies
has_inserted outcome = false

-- whether an action has inserts alone, at least one, and isn't whole
abbrev pub inserts_alone : Action → Bool
inserts_alone action = not action.whole && (not (is_empty action.writes) && list_all is_insert action.writes)

-- whether an action can be the next one of a ground: it has inserts alone and isn't whole, the database doesn't refuse it, and each of them inserts its row
abbrev pub is_of_ground : Database → Action → Bool
is_of_ground db action =
    inserts_alone action && (is_none (refusal_of db (events.Write action)) && list_all is_inserted (replies_of action (current_of_db db (now_in db))))

-- an entry can be the next one of a ground
abbrev pub IsOfGround : Database → Entry → Type 0
IsOfGround db e = (action : Action) × (e ≡ entry_of ground_worker action) × (is_of_ground db action ≡ true)

-- behind the history of a database these entries are a ground
abbrev pub AreGround : Database → List Entry → Type 0
AreGround db [] = Unit {0}
AreGround db (e ∷ entries) = IsOfGround db e × AreGround (with_entry db e) entries

-- a database without its history
abbrev pub emptied : Database → Database
emptied db = record db { history = [] }

-- the first slots of a database are a ground
abbrev pub HasGround : Database → ℕ → Type 0
HasGround db size = AreGround (emptied db) (take size db.history)

-- the whole history is a ground
abbrev pub IsGround : Database → Type 0
IsGround db = AreGround (emptied db) db.history
