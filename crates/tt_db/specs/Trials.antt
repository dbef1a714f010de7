-- What a repair would come to: its beginning and all of its steps, with the entries of worker 0.
use Rattle.std.specs.Prelude.{ℕ, List, Option}
use Rattle.std.specs.Option.{option_or}
use Rattle.tt_repair_laws.specs.declared.edit.Edit.{Edit}
use Rattle.tt_db.specs.declared.event.Event.TheVariants as events
use Rattle.tt_db.specs.declared.errors.DbError.{DbError}
use Rattle.tt_db.specs.State.{slots_left}
use Rattle.tt_db.specs.Database.{Database, state_of, with_entry, refusal_of}
use Rattle.tt_db.specs.Steps.{with_steps_by, steps_made, refusal_behind}

-- the database after the beginning of a repair
abbrev pub begun_trial : Database → List Edit → Database
begun_trial db edits = with_entry db (record { worker = 0; event = events.Begin edits })

-- how many slots such a repair has to do
abbrev pub slots_to_try : Database → List Edit → ℕ
slots_to_try db edits = slots_left (state_of (begun_trial db edits))

-- the database after the repair has done all of them
abbrev pub tried_database : Database → List Edit → Database
tried_database db edits = with_steps_by 0 (begun_trial db edits) (slots_to_try db edits)

-- why not all of this many steps of a worker can be made: the refusal of the first that is refused
abbrev pub refusal_of_steps : ℕ → Database → ℕ → Option DbError
refusal_of_steps worker db most =
    let made = steps_made worker db most in
    refusal_behind most made (with_steps_by worker db made)

-- why such a repair can't be tried: the refusal of its beginning, or of the first step that is refused
abbrev pub tried_refusal : Database → List Edit → Option DbError
tried_refusal db edits = option_or (refusal_of db (events.Begin edits)) (refusal_of_steps 0 (begun_trial db edits) (slots_to_try db edits))
