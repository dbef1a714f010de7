-- What holds of every open session, whatever it is asked.
use Rattle.std.specs.Prelude.{◌≡◌, ℕ, true, false, None, Ok}
use Rattle.tt_generations.specs.TwoGenerations.{is_repairing}
use Rattle.tt_db.specs.declared.event.Event.TheVariants as events
use Rattle.tt_db.specs.State.{IsLegal}
use Rattle.tt_db.specs.Database.{Database, state_of, refusal_of}
use Rattle.tt_requests.specs.declared.request.Request.{Request}
use Rattle.tt_commands.specs.Session.{OpenSession}
use Rattle.tt_commands.specs.Answers.{Answered}
use Rattle.tt_commands.specs.Commands.{outcome_of_request}
use Rattle.tt_commands.specs.Room.{has_no_room_to_end}
use Rattle.tt_commands.specs.Repairing.{with_event, with_all_steps}
use Rattle.tt_commands.specs.Sound.{IsSound}

-- an open session: its tables are a catalog, its limits fit, its history is legal, there is room for the end of a repair that is under way, what is told is within its bounds, and no more records are kept than may be
abbrev pub IsOpenSession : OpenSession → Type 0
IsOpenSession session = IsSound session.database session.numbering session.records session.most_records

-- whatever a session is asked and carries out, it is one afterwards
abbrev pub RequestsKeepSessionsSound : Type 0
RequestsKeepSessionsSound = (session : OpenSession) (request : Request) (answered : Answered) → IsOpenSession session →
    outcome_of_request session request ≡ Ok answered → IsOpenSession answered.session

-- the database after all steps of the repair and the switch
abbrev pub finished : Database → ℕ → Database
finished db worker = with_event (with_all_steps db worker) worker events.Switch

-- where a history is legal and has room for the end of the repair under way, the repair can be finished, with none of its steps refused, and can be given up
abbrev pub RepairsCanEnd : Type 0
RepairsCanEnd = (db : Database) (worker : ℕ) → IsLegal db.catalog db.limits db.history → has_no_room_to_end db.limits (state_of db) ≡ false → is_repairing (state_of db).phase ≡ true →
    IsLegal db.catalog db.limits (finished db worker).history
    × (refusal_of db events.Abort ≡ None)
