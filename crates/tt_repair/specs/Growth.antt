-- What a worker adds to the history by several calls, among the entries of others.
use Rattle.std.specs.Prelude.{◌≡◌, ℕ, ◌+◌, ◌<◌, ◌≤◌, List, [], ◌∷◌, ◌++◌, length, All, ◌⊎◌}
use mathlib.Core.List.{IsPrefix}
use Rattle.tt_values.specs.declared.action.Action.{Action}
use Rattle.tt_values.specs.Tables.{Tables}
use Rattle.tt_repair_laws.specs.declared.edit.Edit.{Edit}
use Rattle.tt_generations.specs.TwoGenerations.{Repairing}
use Rattle.tt_db.specs.declared.limits.Limits.{Limits}
use Rattle.tt_db.specs.declared.event.Event.{Event}
use Rattle.tt_db.specs.declared.event.Event.TheVariants as events
use Rattle.tt_db.specs.declared.event.Entry.{Entry}
use Rattle.tt_db.specs.State.{State, after, now_of, slots_left}
use Rattle.tt_store.specs.declared.errors.StoreError.{StoreError}
use Rattle.tt_store.specs.History.{entries_by}
use Rattle.tt_store.specs.Calls.{steps, steps_wanted, events_of}
use Rattle.tt_store.specs.Workers.{WorkerState, own_entries, IsRefused}

-- what a worker had seen is a prefix of what it has seen now, and its own entries grow by exactly these
pub record GrewBy (old new : WorkerState) (made : List Entry) : Type 0 where
  pub number : new.number ≡ old.number
  pub seen : IsPrefix old.seen new.seen
  pub entries : own_entries new ≡ own_entries old ++ made

-- a list, whose first item has this place, is two others merged: it has the items of both, each in its order, and no more. The items of
-- the first of the two stand at these places
abbrev pub IsMergedAt : {X : Type 0} → ℕ → List ℕ → List X → List X → List X → Type 0
IsMergedAt place places xs ys [] = (places ≡ []) × (xs ≡ []) × (ys ≡ [])
IsMergedAt {X} place places xs ys (z ∷ zs) =
    ((later : List ℕ) × (rest : List X) × (places ≡ place ∷ later) × (xs ≡ z ∷ rest) × IsMergedAt (place + 1) later rest ys zs)
    ⊎ ((rest : List X) × (ys ≡ z ∷ rest) × IsMergedAt (place + 1) places xs rest zs)

-- an entry is that of an action
abbrev pub IsWrite : Entry → Type 0
IsWrite e = (action : Action) × (e.event ≡ events.Write action)

-- a repair with these edits is under way, and has done n slots
pub record HasDone (edits : List Edit) (done : ℕ) (S : State) : Type 0 where
  pub phase : S.phase ≡ Repairing edits done
  pub within : done ≤ now_of S

-- a history has grown by n steps of a worker, at these places, and these entries of others. Where the others only wrote, a repair that was
-- under way still is, and has done n more slots
pub record GoesOn (limits : Limits) (worker : ℕ) (count : ℕ) (places : List ℕ) (others : List Entry) (before now : List Entry) : Type 0 where
  pub since : List Entry
  pub is : now ≡ before ++ since
  pub merged : IsMergedAt (length before + 1) places (entries_by worker (steps count)) others since
  pub alone : All IsWrite others → (edits : List Edit) (done : ℕ) → HasDone edits done (after limits before) → HasDone edits (done + count) (after limits now)

-- a worker has made steps, among entries of others. The places of its own entries grow by those of the steps
pub record MadeSteps (limits : Limits) (old new : WorkerState) : Type 0 where
  pub count : ℕ
  pub places : List ℕ
  pub others : List Entry
  pub goes_on : GoesOn limits old.number count places others old.seen new.seen
  pub grew : GrewBy old new (entries_by old.number (steps count))
  pub own : new.own ≡ old.own ++ places

-- a worker has made steps. Where the others only wrote, these are at least as many as there were slots left at the start
pub record MadeAllSteps (limits : Limits) (old new : WorkerState) : Type 0 where
  pub made : MadeSteps limits old new
  pub all : All IsWrite made.others → slots_left (after limits old.seen) ≤ made.count

-- the events of a call for at most n steps, in a state
abbrev pub step_events : ℕ → State → List Event
step_events most S = steps (steps_wanted most S)

-- the events of a call that finishes a repair, in a state
abbrev pub finish_events : State → List Event
finish_events S = steps (slots_left S) ++ events.Switch ∷ []

-- a call that makes these events in a state is refused
abbrev pub IsRefusedWith : Tables → Limits → (State → List Event) → WorkerState → WorkerState → StoreError → Type 0
IsRefusedWith tables limits made old new cause = (call : _) × ((S : State) → events_of call S ≡ made S) × IsRefused tables limits call old new cause

-- a worker has made steps, and then a call of it for these events was refused
pub record StoppedStepping (tables : Tables) (limits : Limits) (made : State → List Event) (old new : WorkerState) (cause : StoreError) : Type 0 where
  pub middle : WorkerState
  pub before : MadeSteps limits old middle
  pub refused : IsRefusedWith tables limits made middle new cause

-- a worker has made fewer steps than there were slots left at the start, and then a call of it for these events was refused
pub record StoppedEarly (tables : Tables) (limits : Limits) (made : State → List Event) (old new : WorkerState) (cause : StoreError) : Type 0 where
  pub stopped : StoppedStepping tables limits made old new cause
  pub fewer : stopped.before.count < slots_left (after limits old.seen)
