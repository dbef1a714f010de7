-- The sequential table of two generations: its states, its refusals, its next states and its outcomes.
use Rattle.std.specs.Prelude.{◌≡◌, ℕ, ◌+◌, ◌-◌, ◌==◌, ◌||◌, not, nat_lt, Bool, List, [], ◌∷◌, ◌++◌, length, drop, find, fold, Option, None, Some, if◌then◌else◌}
use Rattle.std.specs.List.{list_any}
use Rattle.std.specs.Option.{option_map, option_or}
use Rattle.tt_values.specs.Tables.{Tables}
use Rattle.tt_values.specs.declared.checking.CheckError.{CheckError}
use Rattle.tt_values.specs.Check.{action_fault}
use Rattle.tt_values.specs.Content.{Content}
use Rattle.tt_values.specs.Action.{replies_of}
use Rattle.tt_values.specs.RowWrites.{Slots, content_of}
use Rattle.tt_repair_laws.specs.declared.edit.Edit.{Edit}
use Rattle.tt_repair_laws.specs.declared.edit.Edit.TheVariants.{Cancel, Replace}
use Rattle.tt_repair_laws.specs.Edits.{slot_number}
use Rattle.tt_generations.specs.TwoGenerations.{Phase, Idle, Repairing, is_repairing, done_of, left_of, reexecuted_of, is_due_in, phase_after_step, slots_edited_by, next_content_at}
use Rattle.tt_db.specs.declared.limits.Limits.{Limits}
use Rattle.tt_db.specs.declared.event.Event.{Event}
use Rattle.tt_db.specs.declared.event.Event.TheVariants as events
use Rattle.tt_db.specs.declared.event.Entry.{Entry}
use Rattle.tt_db.specs.declared.outcome.Outcome.{Outcome}
use Rattle.tt_db.specs.declared.outcome.Outcome.TheVariants.{Written, Begun, Stepped, Switched, Aborted}
use Rattle.tt_db.specs.declared.errors.DbError.{DbError}
use Rattle.tt_db.specs.declared.errors.DbError.TheVariants as errors

-- a closed generation: its number, the slots that it had at the switch, and the edits of the repair that closed it
pub record ClosedGeneration : Type 0 where
  pub number : ℕ
  pub slots : Slots
  pub edits : List Edit

-- the slots of the current generation, its number, how many events were accepted, what is under way, and the closed generations that
-- are kept, the oldest first
pub record State : Type 0 where
  pub slots : Slots
  pub generation : ℕ
  pub events : ℕ
  pub phase : Phase
  pub closed : List ClosedGeneration

-- the state before the first event
abbrev pub start : State
start = record { slots = []; generation = 0; events = 0; phase = Idle; closed = [] }

-- the time of the last slot
abbrev pub now_of : State → ℕ
now_of S = length S.slots

-- the current content at a time
abbrev pub current_at : State → ℕ → Content
current_at S time = content_of S.slots time

-- the next content at a time, by the slots that the repair has done. Without a repair it is the current one
abbrev pub next_at : State → ℕ → Content
next_at S time = next_content_at S.phase S.slots time

-- the number of the oldest generation that can be read: of the first closed one, or of the current one where none is kept
abbrev pub oldest_of : List ClosedGeneration → ℕ → ℕ
oldest_of [] current = current
oldest_of (c ∷ closed) current = c.number

-- the slots of a generation that can be read: of the current one, or of a closed one that is kept
abbrev pub slots_in : State → ℕ → Option Slots
slots_in S number = if number == S.generation then Some S.slots else option_map (λ c. c.slots) (find (λ c. c.number == number) S.closed)

-- how many slots the repair has left
abbrev pub slots_left : State → ℕ
slots_left S = left_of S.phase S.slots

-- the fault of the first edit whose action has one
abbrev pub edits_fault : Tables → List Edit → Option CheckError
edits_fault tables [] = None
edits_fault tables (Cancel t ∷ E) = edits_fault tables E
edits_fault tables (Replace t action ∷ E) = option_or (action_fault tables action.writes) (edits_fault tables E)

-- the slot of the first edit whose slot isn't among the first n slots
abbrev pub missing_slot : ℕ → List Edit → Option ℕ
missing_slot n [] = None
missing_slot n (e ∷ E) = if (slot_number e == 0) || nat_lt n (slot_number e) then Some (slot_number e) else missing_slot n E

-- the slot of the first edit whose slot an earlier edit has, where these edits are earlier
abbrev pub slot_edited_twice : List Edit → List Edit → Option ℕ
slot_edited_twice earlier [] = None
slot_edited_twice earlier (e ∷ E) =
    if list_any (λ d. slot_number e == slot_number d) earlier then Some (slot_number e) else slot_edited_twice (earlier ++ e ∷ []) E

-- the first refusal of a list
abbrev pub first_refusal : List (Option DbError) → Option DbError
first_refusal [] = None
first_refusal (None ∷ refusals) = first_refusal refusals
first_refusal (Some e ∷ refusals) = Some e

-- a refusal where something holds
abbrev pub refused_if : Bool → DbError → Option DbError
refused_if b e = if b then Some e else None

-- full where a count has reached its limit
abbrev pub full_at : ℕ → ℕ → Option DbError
full_at count limit = refused_if (count == limit) (errors.Full limit)

-- not repairing, while no repair is under way
abbrev pub unless_repairing : Phase → Option DbError
unless_repairing phase = refused_if (not (is_repairing phase)) errors.NotRepairing

-- not caught up, while the repair has slots left
abbrev pub unless_caught_up : ℕ → Option DbError
unless_caught_up left = refused_if (nat_lt 0 left) (errors.NotCaughtUp left)

-- why the table refuses an event, if it does
abbrev pub refusal : Tables → Limits → State → Event → Option DbError
refusal tables limits S (events.Write action) = first_refusal
    (option_map errors.Statement (action_fault tables action.writes)
    ∷ full_at (now_of S) limits.slots
    ∷ full_at S.events limits.events
    ∷ [])
refusal tables limits S (events.Begin edits) = first_refusal
    (option_map errors.Statement (edits_fault tables edits)
    ∷ refused_if (is_repairing S.phase) errors.Repairing
    ∷ option_map errors.NoSlot (missing_slot (now_of S) edits)
    ∷ option_map errors.EditTwice (slot_edited_twice [] edits)
    ∷ refused_if (nat_lt limits.edits (length edits)) errors.TooManyEdits
    ∷ full_at S.events limits.events
    ∷ [])
refusal tables limits S events.Step = first_refusal
    (unless_repairing S.phase
    ∷ refused_if (slots_left S == 0) errors.NothingLeft
    ∷ full_at S.events limits.events
    ∷ [])
refusal tables limits S events.Switch = first_refusal
    (unless_repairing S.phase
    ∷ unless_caught_up (slots_left S)
    ∷ full_at S.events limits.events
    ∷ [])
refusal tables limits S events.Abort = first_refusal
    (unless_repairing S.phase
    ∷ full_at S.events limits.events
    ∷ [])

-- the last n items of a list, or all where there are fewer
abbrev pub last_items : {X : Type 0} → ℕ → List X → List X
last_items n items = drop (length items - n) items

-- the edits of the repair under way. Without one there are none
abbrev pub edits_of : Phase → List Edit
edits_of Idle = []
edits_of (Repairing edits n) = edits

-- the closed generations and one more. The first are dropped while there are more than are kept
abbrev pub with_closed : {X : Type 0} → ℕ → List X → X → List X
with_closed keep closed c = last_items keep (closed ++ c ∷ [])

-- the state after a switch: the current generation is closed, and the next one takes its place
abbrev pub switched_state : Limits → State → State
switched_state limits S = record S {
  slots = slots_edited_by S.phase S.slots;
  generation = S.generation + 1;
  phase = Idle;
  closed = with_closed limits.keep S.closed (record { number = S.generation; slots = S.slots; edits = edits_of S.phase });
}

-- what an event that isn't refused changes in a state
abbrev pub changed_state : Limits → State → Event → State
changed_state limits S (events.Write action) = record S { slots = S.slots ++ Some action ∷ [] }
changed_state limits S (events.Begin edits) = record S { phase = Repairing edits 0 }
changed_state limits S events.Step = record S { phase = phase_after_step S.phase }
changed_state limits S events.Switch = switched_state limits S
changed_state limits S events.Abort = record S { phase = Idle }

-- the state after an event that isn't refused
abbrev pub next_state : Limits → State → Event → State
next_state limits S event = record (changed_state limits S event) { events = S.events + 1 }

-- the outcome of an event that isn't refused
abbrev pub outcome_of : Tables → State → Event → Outcome
outcome_of tables S (events.Write action) = Written (now_of S + 1) (replies_of action (current_at S (now_of S)))
outcome_of tables S (events.Begin edits) = Begun
outcome_of tables S events.Step = Stepped (done_of S.phase + 1) (is_due_in tables S.phase S.slots)
outcome_of tables S events.Switch = Switched (S.generation + 1) (now_of S) (reexecuted_of tables S.phase S.slots)
outcome_of tables S events.Abort = Aborted

-- the state after a history
abbrev pub after : Limits → List Entry → State
after limits history = fold (λ S e. next_state limits S e.event) start history

-- no event of a history is refused at its point, from a state on
abbrev pub IsLegalFrom : Tables → Limits → State → List Entry → Type 0
IsLegalFrom tables limits S [] = Unit {0}
IsLegalFrom tables limits S (e ∷ history) = (refusal tables limits S e.event ≡ None) × IsLegalFrom tables limits (next_state limits S e.event) history

-- no event of a history is refused
abbrev pub IsLegal : Tables → Limits → List Entry → Type 0
IsLegal tables limits history = IsLegalFrom tables limits start history
