-- What an event that isn't refused makes of the tables of two generations.
use Rattle.std.specs.Prelude.{◌≡◌, ℕ, ◌+◌, ◌<◌, length, List, [], None}
use Rattle.std.specs.List.{All}
use Rattle.tt_values.specs.Check.{action_fault}
use Rattle.tt_generations.specs.Limits.{max_slots}
use Rattle.tt_repair_laws.specs.Edits.{HasNoFault}
use Rattle.tt_generations.specs.TwoGenerations.{TwoGenerations, Idle, with_action, with_repair, after_step, after_switch, after_abort, left_of, NamesSlot}
use Rattle.tt_db.specs.declared.event.Event.{Event}
use Rattle.tt_db.specs.declared.event.Event.TheVariants as events
use Rattle.tt_db.specs.declared.outcome.Outcome.{Outcome}
use Rattle.tt_db.specs.State.{State, with_closed, outcome_of}
use Rattle.tt_db.specs.ClosedGenerations.{KeptGeneration}

-- the tables of two generations after an event
abbrev pub generations_after : TwoGenerations → Event → TwoGenerations
generations_after G (events.Write action) = with_action G action
generations_after G (events.Begin edits) = with_repair G edits
generations_after G events.Step = after_step G
generations_after G events.Switch = after_switch G
generations_after G events.Abort = after_abort G

-- the number of the current generation after an event
abbrev pub number_after : ℕ → Event → ℕ
number_after number (events.Write action) = number
number_after number (events.Begin edits) = number
number_after number events.Step = number
number_after number events.Switch = number + 1
number_after number events.Abort = number

-- the closed generations that are kept after an event: a switch closes the current one, of this number, and keeps these tables
abbrev pub closed_after : ℕ → List KeptGeneration → ℕ → TwoGenerations → Event → List KeptGeneration
closed_after keep closed number G events.Switch = with_closed keep closed (record { number = number; generations = G })
closed_after keep closed number G event = closed

-- a state with the tables of two generations, before any event is counted or any generation is closed
abbrev pub state_with : TwoGenerations → ℕ → State
state_with G number = record { slots = G.slots; generation = number; events = 0; phase = G.phase; closed = [] }

-- what tables of two generations ask of an event
abbrev pub Allows : TwoGenerations → Event → Type 0
Allows G (events.Write action) = (action_fault G.catalog action.writes ≡ None) × (length G.slots < max_slots)
Allows G (events.Begin edits) = (G.phase ≡ Idle) × All (NamesSlot G.slots) edits × All (HasNoFault G.catalog) edits
Allows G events.Step = 0 < left_of G.phase G.slots
Allows G events.Switch = left_of G.phase G.slots ≡ 0
Allows G events.Abort = Unit {0}

-- what an event leaves of tables of two generations, whose current one has this number, and its outcome
pub record IsTransition (G : TwoGenerations) (number : ℕ) (event : Event) (next : TwoGenerations) (next_number : ℕ) (told : Outcome) : Type 0 where
  pub generations : next ≡ generations_after G event
  pub generation : next_number ≡ number_after number event
  pub outcome : told ≡ outcome_of G.catalog (state_with G number) event
