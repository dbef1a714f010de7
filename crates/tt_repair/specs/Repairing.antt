-- A repair as one call: the entries that the worker has made by it, and which call was refused where it fails.
use Rattle.std.specs.Prelude.{◌≡◌, ℕ, ◌+◌, ◌<◌, ◌≤◌, Bool, true, false, List, [], ◌∷◌, ◌++◌, length, All, None}
use mathlib.Core.List.{IsPrefix}
use Rattle.tt_values.specs.Tables.{Tables}
use Rattle.tt_repair_laws.specs.declared.edit.Edit.{Edit}
use Rattle.tt_generations.specs.TwoGenerations.{Repairing}
use Rattle.tt_db.specs.declared.limits.Limits.{Limits}
use Rattle.tt_db.specs.declared.event.Event.{Event}
use Rattle.tt_db.specs.declared.event.Event.TheVariants as events
use Rattle.tt_db.specs.declared.event.Entry.{Entry}
use Rattle.tt_db.specs.declared.outcome.Outcome.TheVariants as outcomes
use Rattle.tt_db.specs.declared.errors.DbError.TheVariants as db_errors
use Rattle.tt_db.specs.State.{State, after, now_of, refusal, outcome_of}
use Rattle.tt_store.specs.declared.errors.StoreError.{StoreError}
use Rattle.tt_store.specs.declared.errors.StoreError.TheVariants as errors
use Rattle.tt_store.specs.History.{entries_by}
use Rattle.tt_store.specs.Calls.{steps}
use Rattle.tt_store.specs.Workers.{WorkerState}
use Rattle.tt_repair.specs.declared.repaired.Repaired.{Repaired}
use Rattle.tt_repair.specs.declared.repair_fault.Phase.{Phase}
use Rattle.tt_repair.specs.declared.repair_fault.Phase.TheVariants as phases
use Rattle.tt_repair.specs.declared.repair_fault.RepairFault.{RepairFault}
use Rattle.tt_repair.specs.Growth.{GrewBy, IsMergedAt, IsWrite, IsRefusedWith, step_events, finish_events}

-- the entry that a worker makes of an event
abbrev pub entry_by : ℕ → Event → Entry
entry_by worker event = record { worker = worker; event = event }

-- the beginning of a repair and n steps
abbrev pub begun_steps : List Edit → ℕ → List Event
begun_steps edits count = events.Begin edits ∷ steps count

-- a worker has made a repair with these edits: a Begin, n Steps and a Switch. The Begin comes after a front that begins with what the
-- worker had seen. Then come its Steps and the entries of others, and last the Switch, whose outcome is the rest of the answer. The places
-- of its own entries grow by those of its Begin, its Steps and its Switch. Where the others only wrote, the repair that is switched is that
-- of the edits, and each slot had its Step
pub record HasRepaired (tables : Tables) (limits : Limits) (edits : List Edit) (old new : WorkerState) (r : Repaired) : Type 0 where
  pub count : ℕ
  pub begun : List Entry
  pub places : List ℕ
  pub others : List Entry
  pub between : List Entry
  pub front : List Entry
  pub grew : GrewBy old new (entries_by old.number (begun_steps edits count ++ events.Switch ∷ []))
  pub later : IsPrefix old.seen begun
  pub front_is : front ≡ begun ++ entry_by old.number (events.Begin edits) ∷ between
  pub merged : IsMergedAt (length begun + 2) places (entries_by old.number (steps count)) others between
  pub seen : new.seen ≡ front ++ entry_by old.number events.Switch ∷ []
  pub place_is : r.place ≡ length new.seen
  pub own : new.own ≡ old.own ++ (length begun + 1) ∷ (places ++ r.place ∷ [])
  pub accepted : refusal tables limits (after limits front) events.Switch ≡ None
  pub outcome : outcome_of tables (after limits front) events.Switch ≡ outcomes.Switched r.generation r.slots r.rerun
  pub all_slots : All IsWrite others → count ≡ r.slots
  pub same_edits : All IsWrite others → (after limits front).phase ≡ Repairing edits r.slots

-- a worker has made a Begin with these edits and n Steps, and then a call of it for these events was refused. The Begin comes after a front
-- that begins with what the worker had seen, and then come its Steps and the entries of others. The places of its own entries grew by those
-- of its Begin and its Steps
pub record HasStopped (tables : Tables) (limits : Limits) (edits : List Edit) (made : State → List Event) (old new : WorkerState) (cause : StoreError) : Type 0 where
  pub count : ℕ
  pub begun : List Entry
  pub places : List ℕ
  pub others : List Entry
  pub between : List Entry
  pub middle : WorkerState
  pub grew : GrewBy old middle (entries_by old.number (begun_steps edits count))
  pub later : IsPrefix old.seen begun
  pub seen : middle.seen ≡ begun ++ entry_by old.number (events.Begin edits) ∷ between
  pub merged : IsMergedAt (length begun + 2) places (entries_by old.number (steps count)) others between
  pub own : middle.own ≡ old.own ++ (length begun + 1) ∷ places
  pub refused : IsRefusedWith tables limits made middle new cause

-- a worker has stopped with fewer Steps than there were slots at its Begin
pub record HasStoppedWithin (tables : Tables) (limits : Limits) (edits : List Edit) (made : State → List Event) (old new : WorkerState) (cause : StoreError) : Type 0 where
  pub stopped : HasStopped tables limits edits made old new cause
  pub fewer : stopped.count < now_of (after limits stopped.begun)

-- a worker has stopped. Where the others only wrote, it had made at least as many Steps as there were slots at its Begin
pub record HasStoppedBehind (tables : Tables) (limits : Limits) (edits : List Edit) (made : State → List Event) (old new : WorkerState) (cause : StoreError) : Type 0 where
  pub stopped : HasStopped tables limits edits made old new cause
  pub all : All IsWrite stopped.others → now_of (after limits stopped.begun) ≤ stopped.count

-- a call of this phase was refused, by this cause. In the phase Begin the worker has made nothing. In Steps it had made fewer Steps than
-- there were slots at its Begin, and in a later phase at least as many, where the others only wrote
abbrev pub FailedIn : Tables → Limits → List Edit → ℕ → WorkerState → WorkerState → Phase → StoreError → Type 0
FailedIn tables limits edits batch old new phases.Begin cause = IsRefusedWith tables limits (λ S. events.Begin edits ∷ []) old new cause
FailedIn tables limits edits batch old new phases.Steps cause = HasStoppedWithin tables limits edits (step_events batch) old new cause
FailedIn tables limits edits batch old new phases.CatchUp cause = HasStoppedBehind tables limits edits (step_events batch) old new cause
FailedIn tables limits edits batch old new phases.Finish cause = HasStoppedBehind tables limits edits finish_events old new cause

-- whether a repair may still be open, as far as the worker knows: it has begun one, and the cause isn't that none is under way
abbrev pub is_still_open : Phase → StoreError → Bool
is_still_open phases.Begin cause = false
is_still_open phase (errors.Db db_errors.NotRepairing) = false
is_still_open phase cause = true

-- a repair with these edits, in calls of at most n steps, has failed
pub record HasFailed (tables : Tables) (limits : Limits) (edits : List Edit) (batch : ℕ) (old new : WorkerState) (fault : RepairFault) : Type 0 where
  pub failed : FailedIn tables limits edits batch old new fault.phase fault.cause
  pub still_open : fault.still_open ≡ is_still_open fault.phase fault.cause
