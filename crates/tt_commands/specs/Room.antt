-- Room for the end of a repair: a history has room for a step of each slot that is left, and for the switch. So a repair that was begun can always be
-- stepped, finished and given up.
use Rattle.std.specs.Prelude.{◌≡◌, ℕ, ◌+◌, ◌≤◌, nat_lt, Bool, true, ◌&&◌, Option}
use Rattle.std.specs.Option.{option_or}
use Rattle.tt_generations.specs.TwoGenerations.{is_repairing}
use Rattle.tt_db.specs.declared.limits.Limits.{Limits}
use Rattle.tt_db.specs.declared.event.Event.{Event}
use Rattle.tt_db.specs.declared.errors.DbError.{DbError}
use Rattle.tt_db.specs.declared.errors.DbError.TheVariants as errors
use Rattle.tt_db.specs.State.{State, slots_left, refused_if, next_state}
use Rattle.tt_db.specs.Database.{Database, state_of, refusal_of}

-- how many entries a history has at the end of the repair: those so far, a step of each slot that is left, and the switch
abbrev pub events_at_end : State → ℕ
events_at_end S = S.events + slots_left S + 1

-- whether a repair is under way for whose end there is no room
abbrev pub has_no_room_to_end : Limits → State → Bool
has_no_room_to_end limits S = is_repairing S.phase && nat_lt limits.events (events_at_end S)

-- full, where an event would leave no room for the end of a repair
abbrev pub full_by_repair : Database → Event → Option DbError
full_by_repair db event = refused_if (has_no_room_to_end db.limits (next_state db.limits (state_of db) event)) (errors.Full db.limits.events)

-- why a session refuses an event: as the database does, or else for want of room for the end of a repair
abbrev pub refusal_in_session : Database → Event → Option DbError
refusal_in_session db event = option_or (refusal_of db event) (full_by_repair db event)

-- a repair is under way, and there is room for its end
pub record CanEnd (db : Database) : Type 0 where
  pub repairing : is_repairing (state_of db).phase ≡ true
  pub room : events_at_end (state_of db) ≤ db.limits.events
