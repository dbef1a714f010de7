-- What the calls of a store do, in a worker's own terms.
use Rattle.std.specs.Prelude.{◌≡◌, ℕ, ◌+◌, List, [], ◌∷◌, ◌++◌, length, Option, None, Some}
use mathlib.Core.List.{IsPrefix}
use Rattle.tt_values.specs.declared.action.Action.{Action}
use Rattle.tt_values.specs.Tables.{Tables}
use Rattle.tt_generations.specs.declared.progress.Progress.{Progress}
use Rattle.tt_generations.specs.TwoGenerations.{slots_edited_by}
use Rattle.tt_db.specs.declared.limits.Limits.{Limits}
use Rattle.tt_db.specs.declared.event.Event.{Event}
use Rattle.tt_db.specs.declared.event.Event.TheVariants as events
use Rattle.tt_db.specs.declared.event.Entry.{Entry}
use Rattle.tt_db.specs.declared.outcome.Outcome.{Outcome}
use Rattle.tt_db.specs.declared.outcome.Outcome.TheVariants as outcomes
use Rattle.tt_db.specs.State.{after, refusal, outcome_of, current_at}
use Rattle.tt_db.specs.Database.{repair_of}
use Rattle.tt_store.specs.declared.answer.Written.{Written}
use Rattle.tt_store.specs.declared.answer.Finished.{Finished}
use Rattle.tt_store.specs.declared.call.Call.TheVariants as calls
use Rattle.tt_store.specs.Workers.{WorkerState, own_entries, database_at, Publishes}

-- the current answers stay: after two fronts each time has the same content
abbrev pub ShowsTheSame : Limits → List Entry → List Entry → Type 0
ShowsTheSame limits front seen = (time : ℕ) → current_at (after limits seen) time ≡ current_at (after limits front) time

-- an event is published at a front that begins with what the worker had seen, and isn't refused there. It is the worker's own, and this is its place
pub record PublishesOne (tables : Tables) (limits : Limits) (event : Event) (old new : WorkerState) (front : List Entry) (place : ℕ) : Type 0 where
  pub later : IsPrefix old.seen front
  pub accepted : refusal tables limits (after limits front) event ≡ None
  pub number : new.number ≡ old.number
  pub seen : new.seen ≡ front ++ record { worker = old.number; event = event } ∷ []
  pub place_is : place ≡ length front + 1
  pub own : new.own ≡ old.own ++ place ∷ []
  pub entries : own_entries new ≡ own_entries old ++ record { worker = old.number; event = event } ∷ []

-- an action was carried out: this is its slot, and these are its replies, at the front
pub record Wrote (tables : Tables) (limits : Limits) (action : Action) (old new : WorkerState) (w : Written) : Type 0 where
  pub front : List Entry
  pub published : PublishesOne tables limits (events.Write action) old new front w.place
  pub outcome : outcome_of tables (after limits front) (events.Write action) ≡ outcomes.Written w.slot w.replies

-- a repair was begun, or given up. No current answer changes
pub record Placed (tables : Tables) (limits : Limits) (event : Event) (old new : WorkerState) (place : ℕ) : Type 0 where
  pub front : List Entry
  pub published : PublishesOne tables limits event old new front place
  pub current : ShowsTheSame limits front new.seen

-- a repair that is under way has made steps, at most this number and with no other entry between them, and this is how far it is then.
-- No current answer changes
pub record Stepped (tables : Tables) (limits : Limits) (most : ℕ) (old new : WorkerState) (progress : Progress) : Type 0 where
  pub outcome : Option Outcome
  pub published : Publishes tables limits (calls.Steps most) old new outcome
  pub progress_is : repair_of (database_at tables limits new.seen) ≡ Some progress
  pub current : ShowsTheSame limits published.front new.seen

-- the steps that a repair had left and the switch are published, with no other entry between them. The slots are then those of the
-- front as edited, and these are the outcome and the place of the switch
pub record HasFinished (tables : Tables) (limits : Limits) (old new : WorkerState) (f : Finished) : Type 0 where
  pub outcome : Option Outcome
  pub published : Publishes tables limits calls.Finish old new outcome
  pub outcome_is : outcome ≡ Some (outcomes.Switched f.generation f.slots f.rerun)
  pub place_is : f.place ≡ length new.seen
  pub slots : (after limits new.seen).slots ≡ slots_edited_by (after limits published.front).phase (after limits published.front).slots

-- the outcome of an action
abbrev pub IsOfAction : Option Outcome → Type 0
IsOfAction (Some (outcomes.Written slot replies)) = Unit {0}
IsOfAction (Some outcomes.Begun) = ⊥
IsOfAction (Some (outcomes.Stepped slot rerun)) = ⊥
IsOfAction (Some (outcomes.Switched generation slots rerun)) = ⊥
IsOfAction (Some outcomes.Aborted) = ⊥
IsOfAction None = ⊥

-- the outcome of a switch
abbrev pub IsOfSwitch : Option Outcome → Type 0
IsOfSwitch (Some (outcomes.Switched generation slots rerun)) = Unit {0}
IsOfSwitch (Some (outcomes.Written slot replies)) = ⊥
IsOfSwitch (Some outcomes.Begun) = ⊥
IsOfSwitch (Some (outcomes.Stepped slot rerun)) = ⊥
IsOfSwitch (Some outcomes.Aborted) = ⊥
IsOfSwitch None = ⊥
