-- How the ground of a log is laid in a session that has just been opened.
use Rattle.std.specs.Prelude.{◌&&◌, Bool, is_none, Option, None, Some, Result, Ok, Err, if◌then◌else◌}
use Rattle.std.specs.List.{list_all}
use Rattle.tt_values.specs.declared.action.Action.{Action}
use Rattle.tt_values.specs.Action.{replies_of}
use Rattle.tt_db.specs.declared.event.Event.TheVariants as events
use Rattle.tt_db.specs.Database.{Database, now_in, current_of_db}
use Rattle.tt_horizon.specs.Forgetting.{ground_worker}
use Rattle.tt_horizon.specs.GroundEntries.{inserts_alone, is_inserted}
use Rattle.tt_grammar.specs.declared.fault.DocFault.{DocFault}
use Rattle.tt_requests.specs.declared.log_opening.LogOpening.{LogOpening}
use Rattle.tt_commands.specs.Session.{OpenSession, opened, with_database}
use Rattle.tt_commands.specs.Room.{refusal_in_session}
use Rattle.tt_commands.specs.Repairing.{with_event}

-- the session that the first line of a log with a ground opens, before the ground is laid
abbrev pub opened_on : LogOpening → OpenSession
opened_on o = record (opened o.opening) { numbering = o.numbering }

-- whether an action can be the next one of the ground of a session: it has inserts alone and isn't whole, the session doesn't refuse it, and each of them inserts its row
abbrev pub can_be_laid : Database → Action → Bool
can_be_laid db action =
    inserts_alone action && (is_none (refusal_in_session db (events.Write action)) && list_all is_inserted (replies_of action (current_of_db db (now_in db))))

-- the session with a further action of the ground, if it is one
abbrev pub with_ground : OpenSession → Result Action DocFault → Option OpenSession
with_ground session (Err fault) = None
with_ground session (Ok action) =
    if can_be_laid session.database action then Some (with_database session (with_event session.database ground_worker (events.Write action))) else None
