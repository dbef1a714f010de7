-- A database with one more entry.
use Rattle.std.proofs.Common.{◌≡◌, ◌≢◌, ℕ, ◌+◌, ◌<◌, ◌≤◌, List, [], ◌∷◌, ◌++◌, map, length, None, Some, refl, sym, ap, subst, ◌∙◌, arith, length-append}
use Rattle.tt_values.specs.declared.action.Action.{Action}
use Rattle.tt_values.specs.Tables.{Tables, IsCatalog}
use Rattle.tt_values.specs.RowWrites.{Slots}
use Rattle.tt_repair_laws.proofs.LawProofs.{edited_slots_are_as_many}
use Rattle.tt_generations.specs.TwoGenerations.{TwoGenerations, Phase, Idle, Repairing, no_slots, left_of, phase_after_step, slots_edited_by, IsWithin}
use Rattle.tt_db.specs.declared.limits.Limits.{Limits}
use Rattle.tt_db.specs.declared.event.Entry.{Entry}
use Rattle.tt_db.specs.declared.event.Event.{Event}
use Rattle.tt_db.specs.declared.event.Event.TheVariants as events
use Rattle.tt_db.specs.Limits.{max_limits, Fits}
use Rattle.tt_db.specs.State.{State, ClosedGeneration, start, after, next_state, edits_of, with_closed, refusal, outcome_of, now_of, IsLegal}
use Rattle.tt_db.specs.ClosedGenerations.{KeptGeneration, before_switch, kept_generation}
use Rattle.tt_db.specs.Database.{IsConsistent}
use Rattle.tt_db.specs.Transition.{generations_after, number_after, closed_after, state_with, Allows}
use Rattle.tt_db.proofs.EntryLemmas.{after-push, IsLegalFrom-push}
use Rattle.tt_db.proofs.KeptLemmas.{all_done, with_closed-kept}
use Rattle.tt_db.proofs.RefusalLemmas.{accepted_action, accepted_begin, has_room_for_entry, has_room_for_slot, step_finds_slot, switch_finds_none, switch_finds_repair, is_idle, All-names, All-accepted}

pub IsConsistent-empty : (tables : Tables) (limits : Limits) → IsCatalog tables → Fits limits → IsConsistent limits [] (no_slots tables) 0 []
IsConsistent-empty tables limits catalog fits = record {
  catalog = catalog;
  fits = fits;
  legal = tt;
  events = refl;
  few_slots = omega arith;
  few_events = omega arith;
  few_generations = omega arith;
  within = tt;
  slots = refl;
  phase = refl;
  generation = refl;
  closed = refl;
}

-- tables of two generations, a number and closed generations are those of a state
pub record Agrees (G : TwoGenerations) (number : ℕ) (kept : List KeptGeneration) (S : State) : Type 0 where
  pub slots : G.slots ≡ S.slots
  pub phase : G.phase ≡ S.phase
  pub generation : number ≡ S.generation
  pub closed : kept ≡ map (kept_generation G.catalog) S.closed

pub Agrees-consistent : (limits : Limits) (history : List Entry) (G : TwoGenerations) (number : ℕ) (kept : List KeptGeneration)
    → IsConsistent limits history G number kept → Agrees G number kept (after limits history)
Agrees-consistent limits history G number kept is = record { slots = is.slots; phase = is.phase; generation = is.generation; closed = is.closed }

-- before a switch the tables are those that are kept of the generation that it closes
before-switch : (limits : Limits) (G : TwoGenerations) (number : ℕ) (kept : List KeptGeneration) (S : State) → Agrees G number kept S → IsWithin G.phase G.slots
    → refusal G.catalog limits S events.Switch ≡ None → G ≡ before_switch G.catalog (record { number = S.generation; slots = S.slots; edits = edits_of S.phase })
before-switch limits G number kept S h within accepted =
    let repairing = switch_finds_repair G.catalog limits S accepted in
    let none = switch_finds_none G.catalog limits S accepted in
    let in_state = subst (λ (W : Slots). IsWithin S.phase W) h.slots (subst (λ (phase : Phase). IsWithin phase G.slots) h.phase within) in
    let done = all_done S.phase S.slots repairing none in_state in
    λ i. record { catalog = G.catalog; slots = h.slots i; phase = (h.phase ∙ done) i }

-- after an event that isn't refused they are those of the next state
Agrees-next : (limits : Limits) (G : TwoGenerations) (number : ℕ) (kept : List KeptGeneration) (S : State) (event : Event) → Agrees G number kept S → IsWithin G.phase G.slots
    → refusal G.catalog limits S event ≡ None → Agrees (generations_after G event) (number_after number event) (closed_after limits.keep kept number G event) (next_state limits S event)
Agrees-next limits G number kept S (events.Write action) h within accepted =
    record { slots = ap (λ (W : Slots). W ++ Some action ∷ []) h.slots; phase = h.phase; generation = h.generation; closed = h.closed }
Agrees-next limits G number kept S (events.Begin edits) h within accepted = record { slots = h.slots; phase = refl; generation = h.generation; closed = h.closed }
Agrees-next limits G number kept S events.Step h within accepted = record { slots = h.slots; phase = ap phase_after_step h.phase; generation = h.generation; closed = h.closed }
Agrees-next limits G number kept S events.Switch h within accepted =
    let closes : ClosedGeneration = record { number = S.generation; slots = S.slots; edits = edits_of S.phase } in
    let before = before-switch limits G number kept S h within accepted in record {
      slots = λ i. slots_edited_by (h.phase i) (h.slots i);
      phase = refl;
      generation = ap (λ n. n + 1) h.generation;
      closed = (λ i. with_closed limits.keep (h.closed i) (record { number = h.generation i; generations = before i })) ∙ with_closed-kept G.catalog limits.keep S.closed closes;
    }
Agrees-next limits G number kept S events.Abort h within accepted = record { slots = h.slots; phase = refl; generation = h.generation; closed = h.closed }

-- an event that is no switch closes no generation
pub closed_after-other : (keep : ℕ) (kept : List KeptGeneration) (number : ℕ) (G : TwoGenerations) (event : Event) → event ≢ events.Switch → closed_after keep kept number G event ≡ kept
closed_after-other keep kept number G (events.Write action) other = refl
closed_after-other keep kept number G (events.Begin edits) other = refl
closed_after-other keep kept number G events.Step other = refl
closed_after-other keep kept number G events.Switch other = absurd (other refl)
closed_after-other keep kept number G events.Abort other = refl

-- so the outcome is that of the state
outcome_uncounted : (tables : Tables) (S : State) (event : Event) → outcome_of tables (record S { events = 0; closed = [] }) event ≡ outcome_of tables S event
outcome_uncounted tables S (events.Write action) = refl
outcome_uncounted tables S (events.Begin edits) = refl
outcome_uncounted tables S events.Step = refl
outcome_uncounted tables S events.Switch = refl
outcome_uncounted tables S events.Abort = refl

pub outcome_of-agrees : (tables : Tables) (G : TwoGenerations) (number : ℕ) (kept : List KeptGeneration) (S : State) (event : Event) → Agrees G number kept S
    → outcome_of tables (state_with G number) event ≡ outcome_of tables S event
outcome_of-agrees tables G number kept S event h =
    (λ i. outcome_of tables (record { slots = h.slots i; generation = h.generation i; events = 0; phase = h.phase i; closed = [] }) event)
    ∙ outcome_uncounted tables S event

-- the catalog stays
pub catalog-after : (G : TwoGenerations) (event : Event) → (generations_after G event).catalog ≡ G.catalog
catalog-after G (events.Write action) = refl
catalog-after G (events.Begin edits) = refl
catalog-after G events.Step = refl
catalog-after G events.Switch = refl
catalog-after G events.Abort = refl

-- after an event that isn't refused there are no more slots than the limit
length-edited : (phase : Phase) (W : Slots) → length (slots_edited_by phase W) ≡ length W
length-edited Idle W = refl
length-edited (Repairing edits n) W = edited_slots_are_as_many W edits

few_slots-next : (tables : Tables) (limits : Limits) (S : State) (event : Event) → refusal tables limits S event ≡ None → now_of S ≤ limits.slots → now_of (next_state limits S event) ≤ limits.slots
few_slots-next tables limits S (events.Write action) accepted few =
    omega (arith, has_room_for_slot tables limits S action accepted few, length-append S.slots (Some action ∷ []))
few_slots-next tables limits S (events.Begin edits) accepted few = few
few_slots-next tables limits S events.Step accepted few = few
few_slots-next tables limits S events.Switch accepted few = omega (arith, few, length-edited S.phase S.slots)
few_slots-next tables limits S events.Abort accepted few = few

-- and no more generations than entries
few_generations-next : (limits : Limits) (S : State) (event : Event) → S.generation ≤ S.events → (next_state limits S event).generation ≤ S.events + 1
few_generations-next limits S (events.Write action) few = omega (arith, few)
few_generations-next limits S (events.Begin edits) few = omega (arith, few)
few_generations-next limits S events.Step few = omega (arith, few)
few_generations-next limits S events.Switch few = omega (arith, few)
few_generations-next limits S events.Abort few = omega (arith, few)

-- and the repair has done no more slots than there are
IsWithin-action : (phase : Phase) (W : Slots) (action : Action) → IsWithin phase W → IsWithin phase (W ++ Some action ∷ [])
IsWithin-action Idle W action h = tt
IsWithin-action (Repairing edits n) W action h = omega (arith, h, length-append W (Some action ∷ []))

IsWithin-step : (phase : Phase) (W : Slots) → 0 < left_of phase W → IsWithin (phase_after_step phase) W
IsWithin-step Idle W h = tt
IsWithin-step (Repairing edits n) W h = omega (arith, h)

IsWithin-next : (G : TwoGenerations) (event : Event) → Allows G event → IsWithin G.phase G.slots → IsWithin (generations_after G event).phase (generations_after G event).slots
IsWithin-next G (events.Write action) allowed h = IsWithin-action G.phase G.slots action h
IsWithin-next G (events.Begin edits) allowed h = omega arith
IsWithin-next G events.Step allowed h = IsWithin-step G.phase G.slots allowed
IsWithin-next G events.Switch allowed h = tt
IsWithin-next G events.Abort allowed h = tt

-- tables of two generations allow each event that isn't refused
allows : (limits : Limits) (G : TwoGenerations) (number : ℕ) (kept : List KeptGeneration) (S : State) (event : Event) → Agrees G number kept S → Fits limits
    → now_of S ≤ limits.slots → refusal G.catalog limits S event ≡ None → Allows G event
allows limits G number kept S (events.Write action) h fits few accepted =
    let room = has_room_for_slot G.catalog limits S action accepted few in
    ((accepted_action G.catalog limits S action accepted).no_fault, omega (arith, room, fits.slots, ap length h.slots))
allows limits G number kept S (events.Begin edits) h fits few accepted =
    let begin = accepted_begin G.catalog limits S edits accepted in (
      h.phase ∙ is_idle S.phase begin.idle,
      All-names G.slots edits (rw (h.slots) begin.there),
      All-accepted G.catalog edits begin.no_fault,
    )
allows limits G number kept S events.Step h fits few accepted =
    subst (λ n. 0 < n) (λ i. left_of (sym h.phase i) (sym h.slots i)) (step_finds_slot G.catalog limits S accepted)
allows limits G number kept S events.Switch h fits few accepted =
    (λ i. left_of (h.phase i) (h.slots i)) ∙ switch_finds_none G.catalog limits S accepted
allows limits G number kept S events.Abort h fits few accepted = tt

pub Allows-consistent : (limits : Limits) (history : List Entry) (G : TwoGenerations) (number : ℕ) (kept : List KeptGeneration) (event : Event) → IsConsistent limits history G number kept
    → refusal G.catalog limits (after limits history) event ≡ None → Allows G event
Allows-consistent limits history G number kept event is accepted =
    allows limits G number kept (after limits history) event (Agrees-consistent limits history G number kept is) is.fits is.few_slots accepted

-- and the number of generations is below the largest limit of entries
pub few_generations : (limits : Limits) (history : List Entry) (G : TwoGenerations) (number : ℕ) (kept : List KeptGeneration) (event : Event) → IsConsistent limits history G number kept
    → refusal G.catalog limits (after limits history) event ≡ None → number < max_limits.events
few_generations limits history G number kept event is accepted =
    omega (arith, is.generation, is.few_generations, has_room_for_entry G.catalog limits (after limits history) event accepted is.few_events, is.fits.events)

-- an event that isn't refused leads to a consistent database
pub IsConsistent-push : (limits : Limits) (history : List Entry) (G : TwoGenerations) (number : ℕ) (kept : List KeptGeneration) (e : Entry) → IsConsistent limits history G number kept
    → refusal G.catalog limits (after limits history) e.event ≡ None
    → IsConsistent limits (history ++ e ∷ []) (generations_after G e.event) (number_after number e.event)
    (closed_after limits.keep kept number G e.event)
IsConsistent-push limits history G number kept e is accepted = record {
  catalog = subst IsCatalog (sym (catalog-after G e.event)) is.catalog;
  fits = is.fits;
  legal = subst (λ tables. IsLegal tables limits (history ++ e ∷ [])) (sym (catalog-after G e.event)) (IsLegalFrom-push G.catalog limits start history e is.legal accepted);
  events = ap (λ T. T.events) next ∙ omega (arith, is.events, length-append history (e ∷ []));
  few_slots = subst (λ T. now_of T ≤ limits.slots) (sym next) (few_slots-next G.catalog limits S e.event accepted is.few_slots);
  few_events = subst (λ T. T.events ≤ limits.events) (sym next) (omega (arith, has_room_for_entry G.catalog limits S e.event accepted is.few_events));
  few_generations = subst (λ T. T.generation ≤ T.events) (sym next) (few_generations-next limits S e.event is.few_generations);
  within = IsWithin-next G e.event (Allows-consistent limits history G number kept e.event is accepted) is.within;
  slots = agree.slots ∙ sym (ap (λ T. T.slots) next);
  phase = agree.phase ∙ sym (ap (λ T. T.phase) next);
  generation = agree.generation ∙ sym (ap (λ T. T.generation) next);
  closed = agree.closed ∙ sym (ap (λ T. map (kept_generation (generations_after G e.event).catalog) T.closed) next);
}
  where
    S : State
    S = after limits history

    next : after limits (history ++ e ∷ []) ≡ next_state limits S e.event
    next = after-push limits history e

    agree : Agrees (generations_after G e.event) (number_after number e.event) (closed_after limits.keep kept number G e.event) (next_state limits S e.event)
    agree = Agrees-next limits G number kept S e.event (Agrees-consistent limits history G number kept is) is.within accepted
