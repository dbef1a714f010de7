-- How far a session is: how many entries its history has, and its horizon.
use Rattle.std.specs.Prelude.{◌==◌, ◌&&◌, Bool, length}
use Rattle.tt_session.specs.declared.logging.SessionExtent.{SessionExtent}
use Rattle.tt_commands.specs.Session.{OpenSession}

abbrev pub extent_of : OpenSession → SessionExtent
extent_of session = record { events = length session.database.history; horizon = session.numbering.horizon }

-- whether two are the same
abbrev pub is_same_extent : SessionExtent → SessionExtent → Bool
is_same_extent one other = (one.events == other.events) && (one.horizon == other.horizon)
