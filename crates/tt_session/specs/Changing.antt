-- What changes the database of a session, and which lines make it forget.
use Rattle.std.specs.Prelude.{ℕ, ◌+◌, ◌==◌, ◌&&◌, Bool, false, not, List, length}
use Rattle.tt_requests.specs.LineValue.{value_of_line}
use Rattle.tt_commands.specs.Session.{request_in}
use Rattle.tt_session.specs.declared.session.Session.{Session}
use Rattle.tt_session.specs.declared.session.Session.TheVariants as sessions
use Rattle.tt_requests.specs.Asked.{asks_to_forget}

-- how many entries a session has made, its opening among them
abbrev pub entries_of : Session → ℕ
entries_of sessions.NotOpen = 0
entries_of (sessions.Open session) = length session.database.history + 1

-- the horizon of a session
abbrev pub horizon_of : Session → ℕ
horizon_of sessions.NotOpen = 0
horizon_of (sessions.Open session) = session.numbering.horizon

-- whether what leads from one session to another changes the database: the history has another length, or the horizon is another
abbrev pub changes_database : Session → Session → Bool
changes_database old new = not ((entries_of new == entries_of old) && (horizon_of new == horizon_of old))

-- whether a line asks a session to forget what lies before a time
abbrev pub line_asks_to_forget : Session → List ℕ → Bool
line_asks_to_forget (sessions.Open session) line = asks_to_forget (request_in session (value_of_line line))
line_asks_to_forget session line = false
