-- What the calls of a store do, of what they publish.
use Rattle.std.proofs.Common.{◌≡◌, ℕ, zero, suc, ◌+◌, true, List, [], ◌∷◌, ◌++◌, length, Option, None, Some, IsSome, refl, sym, ap, subst, ◌∙◌, length-append}
use Rattle.std.specs.Option.{option_or}
use Rattle.tt_values.specs.declared.action.Action.{Action}
use Rattle.tt_values.specs.Tables.{Tables}
use Rattle.tt_values.specs.RowWrites.{Slots, content_of}
use Rattle.tt_generations.specs.TwoGenerations.{Phase, Idle, Repairing, slots_edited_by, is_repairing, phase_after_step, progress_in}
use Rattle.tt_generations.specs.declared.progress.Progress.{Progress}
use Rattle.tt_db.specs.declared.limits.Limits.{Limits}
use Rattle.tt_db.specs.declared.event.Event.{Event}
use Rattle.tt_db.specs.declared.event.Event.TheVariants as events
use Rattle.tt_db.specs.declared.outcome.Outcome.{Outcome}
use Rattle.tt_db.specs.declared.outcome.Outcome.TheVariants as outcomes
use Rattle.tt_db.specs.State.{State, ClosedGeneration, after, refusal, next_state, outcome_of, current_at, slots_left}
use Rattle.tt_store.specs.declared.answer.Written.{Written}
use Rattle.tt_store.specs.declared.answer.Finished.{Finished}
use Rattle.tt_store.specs.declared.call.Call.TheVariants as calls
use Rattle.tt_store.specs.Calls.{steps, steps_wanted, events_of, state_after, first_refused}
use Rattle.tt_db.specs.Database.{repair_of}
use Rattle.tt_store.specs.Workers.{WorkerState, Publishes, database_at}
use Rattle.tt_store.specs.Store.{PublishesOne, Wrote, Placed, Stepped, HasFinished, IsOfAction, IsOfSwitch}
use Rattle.tt_store.proofs.CallLemmas.{after-entries, last_outcome-snoc}

or_none : {X : Type 0} (r : Option X) → option_or r None ≡ r
or_none None = refl
or_none (Some x) = refl

-- one event is published
pub publishes_one : (tables : Tables) (limits : Limits) (event : Event) (old new : WorkerState) (o : Option Outcome) (place : ℕ)
    → (is : Publishes tables limits (calls.One event) old new o) → place ≡ length new.seen → PublishesOne tables limits event old new is.front place
publishes_one tables limits event old new o place is at = record {
  later = is.later;
  accepted = sym (or_none (refusal tables limits (after limits is.front) event)) ∙ is.accepted;
  number = is.number;
  seen = is.seen;
  place_is = here;
  own = is.own ∙ ap (λ n. old.own ++ n ∷ []) (sym here);
  entries = is.entries;
}
  where
    here : place ≡ length is.front + 1
    here = at ∙ ap length is.seen ∙ length-append is.front (record { worker = old.number; event = event } ∷ [])

pub outcome_of_action : (tables : Tables) (limits : Limits) (action : Action) (old new : WorkerState) (o : Option Outcome)
    → Publishes tables limits (calls.One (events.Write action)) old new o → IsOfAction o
outcome_of_action tables limits action old new o is = subst IsOfAction (sym is.outcome_is) tt

some_is : {X : Type 0} (x y : X) → ◌≡◌ {A = Option X} (Some x) (Some y) → x ≡ y
some_is x y h = cc h

pub wrote : (tables : Tables) (limits : Limits) (action : Action) (old new : WorkerState) (o : Option Outcome) (w : Written)
    → Publishes tables limits (calls.One (events.Write action)) old new o → o ≡ Some (outcomes.Written w.slot w.replies) → w.place ≡ length new.seen → Wrote tables limits action old new w
wrote tables limits action old new o w is outcome_is at = record {
  front = is.front;
  published = publishes_one tables limits (events.Write action) old new o w.place is at;
  outcome = some_is (outcome_of tables (after limits is.front) (events.Write action)) (outcomes.Written w.slot w.replies) (sym is.outcome_is ∙ outcome_is);
}

-- where an event leaves the slots, the current answers stay
shows_the_same : (S T : State) → T.slots ≡ S.slots → (time : ℕ) → current_at T time ≡ current_at S time
shows_the_same S T h time = ap (λ (W : Slots). content_of W time) h

pub placed : (tables : Tables) (limits : Limits) (event : Event) (old new : WorkerState) (o : Option Outcome) (place : ℕ)
    → ((S : State) → (next_state limits S event).slots ≡ S.slots)
    → Publishes tables limits (calls.One event) old new o → place ≡ length new.seen → Placed tables limits event old new place
placed tables limits event old new o place same is at = record {
  front = is.front;
  published = publishes_one tables limits event old new o place is at;
  current = λ time. shows_the_same (after limits is.front) (after limits new.seen) (ap (λ S. S.slots) (ap (after limits) is.seen ∙ after-entries limits is.front old.number (event ∷ [])) ∙ same (after limits is.front)) time;
}

pub placed_begin : (tables : Tables) (limits : Limits) (edits : _) (old new : WorkerState) (o : Option Outcome) (place : ℕ)
    → Publishes tables limits (calls.One (events.Begin edits)) old new o → place ≡ length new.seen → Placed tables limits (events.Begin edits) old new place
placed_begin tables limits edits old new o place is at = placed tables limits (events.Begin edits) old new o place (λ S. refl) is at

pub placed_abort : (tables : Tables) (limits : Limits) (old new : WorkerState) (o : Option Outcome) (place : ℕ)
    → Publishes tables limits (calls.One events.Abort) old new o → place ≡ length new.seen → Placed tables limits events.Abort old new place
placed_abort tables limits old new o place is at = placed tables limits events.Abort old new o place (λ S. refl) is at

-- steps leave the slots, and the edits
steps_leave : (limits : Limits) (n : ℕ) (S : State) → (state_after limits S (steps n)).slots ≡ S.slots
steps_leave limits zero S = refl
steps_leave limits (suc n) S = steps_leave limits n (next_state limits S events.Step)

edited_after_step : (phase : Phase) (W : Slots) → slots_edited_by (phase_after_step phase) W ≡ slots_edited_by phase W
edited_after_step Idle W = refl
edited_after_step (Repairing E n) W = refl

edited_after_steps : (limits : Limits) (n : ℕ) (S : State) (W : Slots) → slots_edited_by (state_after limits S (steps n)).phase W ≡ slots_edited_by S.phase W
edited_after_steps limits zero S W = refl
edited_after_steps limits (suc n) S W = edited_after_steps limits n (next_state limits S events.Step) W ∙ edited_after_step S.phase W

state_after-snoc : (limits : Limits) (S : State) (made : List Event) (e : Event) → state_after limits S (made ++ e ∷ []) ≡ next_state limits (state_after limits S made) e
state_after-snoc limits S [] e = refl
state_after-snoc limits S (x ∷ made) e = state_after-snoc limits (next_state limits S x) made e

pub outcome_of_switch : (tables : Tables) (limits : Limits) (old new : WorkerState) (o : Option Outcome) → Publishes tables limits calls.Finish old new o → IsOfSwitch o
outcome_of_switch tables limits old new o is =
    subst IsOfSwitch (sym (is.outcome_is ∙ last_outcome-snoc tables limits (after limits is.front) (steps (slots_left (after limits is.front))) events.Switch)) tt

pub finished : (tables : Tables) (limits : Limits) (old new : WorkerState) (o : Option Outcome) (f : Finished)
    → Publishes tables limits calls.Finish old new o → o ≡ Some (outcomes.Switched f.generation f.slots f.rerun) → f.place ≡ length new.seen → HasFinished tables limits old new f
finished tables limits old new o f is outcome_is at =
    let S = after limits is.front in
    let n = slots_left S in
    let T = state_after limits S (steps n) in
    let all : after limits new.seen ≡ next_state limits T events.Switch =
    ap (after limits) is.seen ∙ after-entries limits is.front old.number (events_of calls.Finish S) ∙ state_after-snoc limits S (steps n) events.Switch in
    record {
      outcome = o;
      published = is;
      outcome_is = outcome_is;
      place_is = at;
      slots = ap (λ (U : State). U.slots) all ∙ ap (λ W. slots_edited_by T.phase W) (steps_leave limits n S) ∙ edited_after_steps limits n S S.slots;
    }

-- steps are refused where no repair is under way
under_way_by : (tables : Tables) (limits : Limits) (W : Slots) (g m : ℕ) (closed : List ClosedGeneration) (phase : Phase) (most : ℕ)
    → first_refused tables limits (record { slots = W; generation = g; events = m; phase = phase; closed = closed })
    (events_of (calls.Steps most) (record { slots = W; generation = g; events = m; phase = phase; closed = closed })) ≡ None
    → is_repairing phase ≡ true
under_way_by tables limits W g m closed Idle most h = absurd (cc h)
under_way_by tables limits W g m closed (Repairing E n) most h = refl

repairing_after_step : (phase : Phase) → is_repairing (phase_after_step phase) ≡ is_repairing phase
repairing_after_step Idle = refl
repairing_after_step (Repairing E n) = refl

repairing_after_steps : (limits : Limits) (n : ℕ) (S : State) → is_repairing (state_after limits S (steps n)).phase ≡ is_repairing S.phase
repairing_after_steps limits zero S = refl
repairing_after_steps limits (suc n) S = repairing_after_steps limits n (next_state limits S events.Step) ∙ repairing_after_step S.phase

progress_some : (tables : Tables) (phase : Phase) (W : Slots) → is_repairing phase ≡ true → IsSome (progress_in tables phase W)
progress_some tables Idle W h = absurd (cc h)
progress_some tables (Repairing E n) W h = refl

pub progress_known : (tables : Tables) (limits : Limits) (most : ℕ) (old new : WorkerState) (o : Option Outcome) → Publishes tables limits (calls.Steps most) old new o
    → IsSome (repair_of (database_at tables limits new.seen))
progress_known tables limits most old new o is =
    let S = after limits is.front in
    let n = steps_wanted most S in
    let all : after limits new.seen ≡ state_after limits S (steps n) = ap (after limits) is.seen ∙ after-entries limits is.front old.number (steps n) in
    let there : is_repairing (after limits new.seen).phase ≡ true =
    ap (λ (U : State). is_repairing U.phase) all ∙ repairing_after_steps limits n S ∙ under_way_by tables limits S.slots S.generation S.events S.closed S.phase most is.accepted in
    progress_some tables (after limits new.seen).phase (after limits new.seen).slots there

pub stepped : (tables : Tables) (limits : Limits) (most : ℕ) (old new : WorkerState) (o : Option Outcome) (p : Progress) → Publishes tables limits (calls.Steps most) old new o
    → repair_of (database_at tables limits new.seen) ≡ Some p → Stepped tables limits most old new p
stepped tables limits most old new o p is progress_is =
    let S = after limits is.front in
    let n = steps_wanted most S in
    let all : after limits new.seen ≡ state_after limits S (steps n) = ap (after limits) is.seen ∙ after-entries limits is.front old.number (steps n) in
    record {
      outcome = o;
      published = is;
      progress_is = progress_is;
      current = λ time. shows_the_same S (after limits new.seen) (ap (λ (U : State). U.slots) all ∙ steps_leave limits n S) time;
    }
