-- How the database of a session is made again, where memory has run out while it was changed.
use Rattle.std.specs.Prelude.{◌≡◌, Bool, true, false, List, ◌++◌, Option, None, Some}
use Rattle.tt_db.specs.declared.event.Entry.{Entry}
use Rattle.tt_db.specs.Database.{Database}
use Rattle.tt_commands.specs.Session.{OpenSession, with_database}
use Rattle.tt_commands.specs.Invariants.{IsOpenSession}

-- a database with further entries
abbrev pub with_entries : Database → List Entry → Database
with_entries db more = record db { history = db.history ++ more }

-- a database is an earlier one with further entries
abbrev pub ComesFrom : Database → Database → Type 0
ComesFrom earlier db = (more : List Entry) × (db ≡ with_entries earlier more)

-- a session. Where its database is lost, it has the one that its checkpoint leads to
abbrev pub recovered_session : OpenSession → Option Database → Bool → OpenSession
recovered_session session (Some db) true = with_database session db
recovered_session session (Some db) false = session
recovered_session session None is_lost = session

-- a checkpoint leads to an earlier database of the session; or the database is lost, and the session is sound with the one that the checkpoint leads to; or there is no checkpoint, and the database is there
abbrev pub IsRecoverable : OpenSession → Option Database → Bool → Type 0
IsRecoverable session (Some db) true = IsOpenSession (with_database session db)
IsRecoverable session (Some db) false = ComesFrom db session.database
IsRecoverable session None is_lost = is_lost ≡ false
