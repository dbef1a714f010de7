-- A repair as one call: what its calls come to.
use Rattle.std.proofs.Common.{◌≡◌, ℕ, zero, suc, ◌+◌, ◌-◌, ◌≤◌, nat_lt, Bool, true, false, List, [], ◌∷◌, ◌++◌, length, All, Option, None, Some, refl, sym, ap, subst, ◌∙◌, arith, append_assoc, length-append}
use Rattle.std.specs.Option.{option_or}
use Rattle.std.proofs.lemmas.Bool.Decides.{nat_tests}
use Rattle.std.proofs.lemmas.List.{append-nil, length-map, replicate-append-replicate}
use Rattle.tt_values.specs.Tables.{Tables}
use Rattle.tt_values.specs.RowWrites.{Slots}
use Rattle.tt_repair_laws.specs.declared.edit.Edit.{Edit}
use Rattle.tt_generations.specs.TwoGenerations.{Phase, Idle, Repairing, left_of, progress_in}
use Rattle.tt_generations.specs.declared.progress.Progress.{Progress}
use Rattle.tt_db.specs.declared.limits.Limits.{Limits}
use Rattle.tt_db.specs.declared.event.Event.{Event}
use Rattle.tt_db.specs.declared.event.Event.TheVariants as events
use Rattle.tt_db.specs.declared.event.Entry.{Entry}
use Rattle.tt_db.specs.declared.outcome.Outcome.{Outcome}
use Rattle.tt_db.specs.declared.outcome.Outcome.TheVariants as outcomes
use Rattle.tt_db.specs.State.{State, after, refusal, outcome_of, now_of, slots_left}
use Rattle.tt_store.specs.declared.answer.Finished.{Finished}
use Rattle.tt_store.specs.declared.errors.StoreError.{StoreError}
use Rattle.tt_store.specs.History.{entries_by}
use Rattle.tt_store.specs.Calls.{steps, events_of, state_after, first_refused, last_outcome, numbers_from}
use Rattle.tt_store.specs.Workers.{WorkerState, IsRefused}
use Rattle.tt_store.specs.Store.{Placed, HasFinished}
use Rattle.tt_store.proofs.CallLemmas.{first_refused-append, last_outcome-snoc, after-entries, entries_by-append}
use Rattle.tt_repair.specs.declared.repaired.Repaired.{Repaired}
use Rattle.tt_repair.specs.declared.repair_fault.Phase.TheVariants as phases
use Rattle.tt_repair.specs.declared.repair_fault.RepairFault.{RepairFault}
use Rattle.tt_repair.specs.Growth.{GrewBy, IsMergedAt, IsWrite, HasDone, GoesOn, MadeSteps, MadeAllSteps, StoppedStepping, StoppedEarly, IsRefusedWith, step_events, finish_events}
use Rattle.tt_repair.specs.Repairing.{HasRepaired, HasStopped, HasStoppedWithin, HasStoppedBehind, HasFailed, entry_by, begun_steps, is_still_open}
use Rattle.tt_repair.proofs.GrowthLemmas.{grew_none, grew_then, grew_on, grew_one, grew_publishes, goes_on_then, places_behind, steps_behind, made_all_then}

-- a worker has begun a repair and made steps
grew_begun : (tables : Tables) (limits : Limits) (edits : List Edit) (a b c : WorkerState) (place : ℕ)
    → Placed tables limits (events.Begin edits) a b place → (made : MadeSteps limits b c) → GrewBy a c (entries_by a.number (begun_steps edits made.count))
grew_begun tables limits edits a b c place begun made =
    grew_on a b c (events.Begin edits ∷ []) (steps made.count) (grew_one tables limits (events.Begin edits) a b begun.front place begun.published) made.grew

-- the refusals, by their phases
pub failed_at_begin : (tables : Tables) (limits : Limits) (edits : List Edit) (batch : ℕ) (call : _) (a b : WorkerState) (cause : StoreError) (fault : RepairFault)
    → ((S : State) → events_of call S ≡ events.Begin edits ∷ []) → IsRefused tables limits call a b cause
    → fault ≡ record { phase = phases.Begin; still_open = is_still_open phases.Begin cause; cause = cause } → HasFailed tables limits edits batch a b fault
failed_at_begin tables limits edits batch call a b cause fault same refused is =
    subst (HasFailed tables limits edits batch a b) (sym is) (record { failed = (call, same, refused); still_open = refl })

-- what has gone on since a beginning of a repair, at its places
begun_merged : (limits : Limits) (edits : List Edit) (worker count : ℕ) (places : List ℕ) (others front seen now : List Entry) → seen ≡ front ++ entry_by worker (events.Begin edits) ∷ []
    → (on : GoesOn limits worker count places others seen now) → IsMergedAt (length front + 2) places (entries_by worker (steps count)) others on.since
begun_merged limits edits worker count places others front seen now is on =
    let place : length seen + 1 ≡ length front + 2 = omega (arith, ap length is ∙ length-append front (entry_by worker (events.Begin edits) ∷ [])) in
    subst (λ k. IsMergedAt k places (entries_by worker (steps count)) others on.since) place on.merged

begun_seen : (limits : Limits) (edits : List Edit) (worker count : ℕ) (places : List ℕ) (others front seen now : List Entry) → seen ≡ front ++ entry_by worker (events.Begin edits) ∷ []
    → (on : GoesOn limits worker count places others seen now) → now ≡ front ++ entry_by worker (events.Begin edits) ∷ on.since
begun_seen limits edits worker count places others front seen now is on =
    on.is ∙ ap (λ l. l ++ on.since) is ∙ append_assoc front (entry_by worker (events.Begin edits) ∷ []) on.since

begun_own : (a b c places : List ℕ) (place first : ℕ) → b ≡ a ++ place ∷ [] → place ≡ first → c ≡ b ++ places → c ≡ a ++ first ∷ places
begun_own a b c places place first begun is made =
    made ∙ ap (λ l. l ++ places) begun ∙ append_assoc a (place ∷ []) places ∙ ap (λ k. a ++ k ∷ places) is

-- at the beginning of a repair each slot is left
begun_left : (tables : Tables) (limits : Limits) (edits : List Edit) (a b : WorkerState) (place : ℕ) → (begun : Placed tables limits (events.Begin edits) a b place)
    → slots_left (after limits b.seen) ≡ now_of (after limits begun.front)
begun_left tables limits edits a b place begun =
    let front = begun.front in
    ap (λ l. slots_left (after limits l)) begun.published.seen
    ∙ ap slots_left (after-entries limits front a.number (events.Begin edits ∷ []))
    ∙ (let same : length (after limits front).slots - 0 ≡ length (after limits front).slots = omega arith in same)

stopped : (tables : Tables) (limits : Limits) (edits : List Edit) (made : State → List Event) (a b c d : WorkerState) (place : ℕ) (cause : StoreError)
    → Placed tables limits (events.Begin edits) a b place → MadeSteps limits b c → IsRefusedWith tables limits made c d cause → HasStopped tables limits edits made a d cause
stopped tables limits edits made a b c d place cause begun before refused =
    let is = begun.published in
    let on : GoesOn limits a.number before.count before.places before.others b.seen c.seen =
    subst (λ k. GoesOn limits k before.count before.places before.others b.seen c.seen) is.number before.goes_on in
    record {
      count = before.count;
      begun = begun.front;
      places = before.places;
      others = before.others;
      between = on.since;
      middle = c;
      grew = grew_begun tables limits edits a b c place begun before;
      later = is.later;
      seen = begun_seen limits edits a.number before.count before.places before.others begun.front b.seen c.seen is.seen on;
      merged = begun_merged limits edits a.number before.count before.places before.others begun.front b.seen c.seen is.seen on;
      own = begun_own a.own b.own c.own before.places place (length begun.front + 1) is.own is.place_is before.own;
      refused = refused;
    }

stopped_within : (tables : Tables) (limits : Limits) (edits : List Edit) (made : State → List Event) (a b c : WorkerState) (place : ℕ) (cause : StoreError)
    → Placed tables limits (events.Begin edits) a b place → StoppedEarly tables limits made b c cause → HasStoppedWithin tables limits edits made a c cause
unfolding stopped
stopped_within tables limits edits made a b c place cause begun s = record {
  stopped = stopped tables limits edits made a b s.stopped.middle c place cause begun s.stopped.before s.stopped.refused;
  fewer = omega (arith, s.fewer, begun_left tables limits edits a b place begun);
}

stopped_behind : (tables : Tables) (limits : Limits) (edits : List Edit) (made : State → List Event) (a b c d : WorkerState) (place : ℕ) (cause : StoreError)
    → Placed tables limits (events.Begin edits) a b place → MadeAllSteps limits b c → IsRefusedWith tables limits made c d cause → HasStoppedBehind tables limits edits made a d cause
unfolding stopped
stopped_behind tables limits edits made a b c d place cause begun all refused = record {
  stopped = stopped tables limits edits made a b c d place cause begun all.made refused;
  all = λ writes. omega (arith, all.all writes, begun_left tables limits edits a b place begun);
}

-- a call that is refused adds nothing to what was made before it
pub grew_stopped : (tables : Tables) (limits : Limits) (edits : List Edit) (made : State → List Event) (a b : WorkerState) (cause : StoreError)
    → (s : HasStopped tables limits edits made a b cause) → GrewBy a b (entries_by a.number (begun_steps edits s.count))
grew_stopped tables limits edits made a b cause s =
    subst (GrewBy a b) (append-nil (entries_by a.number (begun_steps edits s.count)))
    (grew_then a s.middle b (entries_by a.number (begun_steps edits s.count)) [] s.grew (grew_none s.middle b (s.refused.2).looks))

pub failed_in_steps : (tables : Tables) (limits : Limits) (edits : List Edit) (batch : ℕ) (a b c : WorkerState) (place : ℕ) (cause : StoreError) (fault : RepairFault)
    → Placed tables limits (events.Begin edits) a b place → StoppedEarly tables limits (step_events batch) b c cause
    → fault ≡ record { phase = phases.Steps; still_open = is_still_open phases.Steps cause; cause = cause } → HasFailed tables limits edits batch a c fault
failed_in_steps tables limits edits batch a b c place cause fault begun s is =
    subst (HasFailed tables limits edits batch a c) (sym is) (record {
      failed = stopped_within tables limits edits (step_events batch) a b c place cause begun s;
      still_open = refl;
    })

pub failed_in_catch_up : (tables : Tables) (limits : Limits) (edits : List Edit) (batch : ℕ) (a b c d : WorkerState) (place : ℕ) (cause : StoreError) (fault : RepairFault)
    → Placed tables limits (events.Begin edits) a b place → MadeAllSteps limits b c → StoppedStepping tables limits (step_events batch) c d cause
    → fault ≡ record { phase = phases.CatchUp; still_open = is_still_open phases.CatchUp cause; cause = cause } → HasFailed tables limits edits batch a d fault
failed_in_catch_up tables limits edits batch a b c d place cause fault begun made s is =
    subst (HasFailed tables limits edits batch a d) (sym is) (record {
      failed =
          stopped_behind tables limits edits (step_events batch) a b s.middle d place cause begun
          (made_all_then limits b c s.middle made s.before) s.refused;
      still_open = refl;
    })

pub failed_in_finish : (tables : Tables) (limits : Limits) (edits : List Edit) (batch : ℕ) (call : _) (a b c d e : WorkerState) (place : ℕ) (cause : StoreError) (fault : RepairFault)
    → ((S : State) → events_of call S ≡ finish_events S)
    → Placed tables limits (events.Begin edits) a b place → MadeAllSteps limits b c → MadeSteps limits c d → IsRefused tables limits call d e cause
    → fault ≡ record { phase = phases.Finish; still_open = is_still_open phases.Finish cause; cause = cause } → HasFailed tables limits edits batch a e fault
failed_in_finish tables limits edits batch call a b c d e place cause fault same begun made more refused is =
    subst (HasFailed tables limits edits batch a e) (sym is) (record {
      failed = stopped_behind tables limits edits finish_events a b d e place cause begun (made_all_then limits b c d made more) (call, same, refused);
      still_open = refl;
    })

-- a switch that isn't refused, and its outcome
second_none : {X : Type 0} (a b : Option X) → option_or a b ≡ None → b ≡ None
second_none None b h = h
second_none (Some x) b h = absurd (cc h)

or_none : {X : Type 0} (r : Option X) → option_or r None ≡ r
or_none None = refl
or_none (Some x) = refl

some_is : {X : Type 0} (x y : X) → ◌≡◌ {A = Option X} (Some x) (Some y) → x ≡ y
some_is x y h = cc h

switch_accepted : (tables : Tables) (limits : Limits) (front : List Entry) (worker n : ℕ)
    → first_refused tables limits (after limits front) (steps n ++ events.Switch ∷ []) ≡ None
    → refusal tables limits (after limits (front ++ entries_by worker (steps n))) events.Switch ≡ None
switch_accepted tables limits front worker n h =
    let S = after limits front in
    let T = state_after limits S (steps n) in
    ap (λ U. refusal tables limits U events.Switch) (after-entries limits front worker (steps n))
    ∙ sym (or_none (refusal tables limits T events.Switch))
    ∙ second_none (first_refused tables limits S (steps n)) (first_refused tables limits T (events.Switch ∷ []))
    (sym (first_refused-append tables limits S (steps n) (events.Switch ∷ [])) ∙ h)

-- at a switch that isn't refused no slot is left
none_left_in : (tables : Tables) (limits : Limits) (W : Slots) (g m : ℕ) (closed : _) (phase : Phase) (edits : List Edit) (done : ℕ) → phase ≡ Repairing edits done
    → refusal tables limits (record { slots = W; generation = g; events = m; phase = phase; closed = closed }) events.Switch ≡ None → length W ≤ done
none_left_in tables limits W g m closed phase edits done is h = by (nat_lt 0 (length W - done)) refl
  where
    there : refusal tables limits (record { slots = W; generation = g; events = m; phase = Repairing edits done; closed = closed }) events.Switch ≡ None
    there = subst (λ p. refusal tables limits (record { slots = W; generation = g; events = m; phase = p; closed = closed }) events.Switch ≡ None) is h

    by : (b : Bool) → nat_lt 0 (length W - done) ≡ b → length W ≤ done
    by true some = absurd (cc (there, some))
    by false none = grind (arith, nat_tests)

none_left : (tables : Tables) (limits : Limits) (S : State) (edits : List Edit) (done : ℕ) → HasDone edits done S → refusal tables limits S events.Switch ≡ None → done ≡ now_of S
none_left tables limits S edits done h accepted =
    omega (arith, h.within, none_left_in tables limits S.slots S.generation S.events S.closed S.phase edits done h.phase accepted)

slots_switched : (tables : Tables) (S : State) (generation slots rerun : ℕ) → outcome_of tables S events.Switch ≡ outcomes.Switched generation slots rerun → slots ≡ now_of S
slots_switched tables S generation slots rerun h = cc h

-- a repair that was begun has done no slot
begun_done : (limits : Limits) (edits : List Edit) (front : List Entry) (worker : ℕ) → HasDone edits 0 (after limits (front ++ entry_by worker (events.Begin edits) ∷ []))
begun_done limits edits front worker =
    subst (HasDone edits 0) (sym (after-entries limits front worker (events.Begin edits ∷ []))) (record { phase = refl; within = omega arith })

-- the steps and the switch of the last call
finish_goes_on : (limits : Limits) (tables : Tables) (old new : WorkerState) (f : Finished) (fin : HasFinished tables limits old new f)
    → GoesOn limits old.number (slots_left (after limits fin.published.front)) (places_behind fin.published.front (slots_left (after limits fin.published.front))) fin.published.later.0 old.seen
    (fin.published.front ++ entries_by old.number (steps (slots_left (after limits fin.published.front))))
finish_goes_on limits tables old new f fin =
    let is = fin.published in
    let S = after limits is.front in
    steps_behind limits old.number (slots_left S) old.seen is.front is.later
    (λ edits done h. omega (arith, h.within, ap (λ p. left_of p S.slots) h.phase))

events_made : (edits : List Edit) (m n : ℕ) → begun_steps edits m ++ (steps n ++ events.Switch ∷ []) ≡ begun_steps edits (m + n) ++ events.Switch ∷ []
events_made edits m n =
    sym (append_assoc (begun_steps edits m) (steps n) (events.Switch ∷ []))
    ∙ ap (λ l. (events.Begin edits ∷ l) ++ events.Switch ∷ []) (replicate-append-replicate m n events.Step)

switch_seen : (front seen : List Entry) (worker number n : ℕ) → number ≡ worker → seen ≡ front ++ entries_by number (steps n ++ events.Switch ∷ [])
    → seen ≡ front ++ entries_by worker (steps n) ++ entry_by worker events.Switch ∷ []
switch_seen front seen worker number n same is =
    is
    ∙ ap (λ k. front ++ entries_by k (steps n ++ events.Switch ∷ [])) same
    ∙ ap (λ l. front ++ l) (entries_by-append worker (steps n) (events.Switch ∷ []))
    ∙ sym (append_assoc front (entries_by worker (steps n)) (entry_by worker events.Switch ∷ []))

switch_outcome : (tables : Tables) (limits : Limits) (front : List Entry) (worker n : ℕ) (o : Option Outcome) (generation slots rerun : ℕ)
    → o ≡ last_outcome tables limits (after limits front) (steps n ++ events.Switch ∷ []) → o ≡ Some (outcomes.Switched generation slots rerun)
    → outcome_of tables (after limits (front ++ entries_by worker (steps n))) events.Switch ≡ outcomes.Switched generation slots rerun
switch_outcome tables limits front worker n o generation slots rerun is is_switched =
    ap (λ U. outcome_of tables U events.Switch) (after-entries limits front worker (steps n))
    ∙ some_is (outcome_of tables (state_after limits (after limits front) (steps n)) events.Switch) (outcomes.Switched generation slots rerun)
    (sym (last_outcome-snoc tables limits (after limits front) (steps n) events.Switch) ∙ sym is ∙ is_switched)

same_outcome : (g s u : ℕ) (h t v : ℕ) → g ≡ h → s ≡ t → u ≡ v → ◌≡◌ {A = Outcome} (outcomes.Switched g s u) (outcomes.Switched h t v)
same_outcome g s u h t v p q w = cc (p, q, w)

-- the places of steps and of the switch behind them
numbers_more : (first m n : ℕ) → n ≡ suc m → numbers_from first n ≡ numbers_from first m ++ (first + m) ∷ []
numbers_more first zero n is = ap (numbers_from first) is ∙ ap (λ k. k ∷ []) (let same : first ≡ first + 0 = omega arith in same)
numbers_more first (suc m) n is =
    ap (numbers_from first) is
    ∙ ap (λ l. first ∷ l) (numbers_more (first + 1) m (suc m) refl)
    ∙ ap (λ k. first ∷ (numbers_from (first + 1) m ++ k ∷ [])) (let same : first + 1 + m ≡ first + suc m = omega arith in same)

switch_places : (front seen : List Entry) (worker n place : ℕ) → seen ≡ front ++ entries_by worker (steps n ++ events.Switch ∷ []) → place ≡ length seen
    → numbers_from (length front + 1) (length (steps n ++ events.Switch ∷ [])) ≡ places_behind front n ++ place ∷ []
switch_places front seen worker n place is place_is =
    let events_made = steps n ++ events.Switch ∷ [] in
    let many : length events_made ≡ suc (length (steps n)) = omega (arith, length-append (steps n) (events.Switch ∷ [])) in
    let length_is : length seen ≡ length front + length events_made =
    ap length is ∙ length-append front (entries_by worker events_made) ∙ ap (λ k. length front + k) (length-map events_made (λ event. entry_by worker event)) in
    let last : length front + 1 + length (steps n) ≡ place = omega (arith, place_is, length_is, many) in
    numbers_more (length front + 1) (length (steps n)) (length events_made) many ∙ ap (λ k. places_behind front n ++ k ∷ []) last

switch_own : (a d e places rest numbers : List ℕ) (first last : ℕ) → d ≡ a ++ first ∷ places → e ≡ d ++ numbers → numbers ≡ rest ++ last ∷ []
    → e ≡ a ++ first ∷ ((places ++ rest) ++ last ∷ [])
switch_own a d e places rest numbers first last made finished is =
    finished
    ∙ ap (λ l. l ++ numbers) made
    ∙ ap (λ l. (a ++ first ∷ places) ++ l) is
    ∙ append_assoc a (first ∷ places) (rest ++ last ∷ [])
    ∙ ap (λ l. a ++ first ∷ l) (sym (append_assoc places rest (last ∷ [])))

pub has_repaired : (tables : Tables) (limits : Limits) (edits : List Edit) (a b c d e : WorkerState) (place : ℕ) (f : Finished) (r : Repaired)
    → Placed tables limits (events.Begin edits) a b place → MadeAllSteps limits b c → MadeSteps limits c d → HasFinished tables limits d e f
    → r.generation ≡ f.generation → r.place ≡ f.place → r.slots ≡ f.slots → r.rerun ≡ f.rerun → HasRepaired tables limits edits a e r
has_repaired tables limits edits a b c d e place f r begun first second fin same_generation same_place same_slots same_rerun =
    let made = (made_all_then limits b c d first second).made in
    let m = made.count in
    let is = fin.published in
    let n = slots_left (after limits is.front) in
    let b_number : b.number ≡ a.number = begun.published.number in
    let number : d.number ≡ a.number = made.grew.number ∙ b_number in
    let front = is.front ++ entries_by a.number (steps n) in
    let rest = places_behind is.front n in
    let on : GoesOn limits a.number (m + n) (made.places ++ rest) (made.others ++ is.later.0) b.seen front =
    goes_on_then limits a.number m n made.places rest made.others is.later.0 b.seen d.seen front
    (subst (λ k. GoesOn limits k m made.places made.others b.seen d.seen) b_number made.goes_on)
    (subst (λ k. GoesOn limits k n rest is.later.0 d.seen (is.front ++ entries_by k (steps n))) number (finish_goes_on limits tables d e f fin)) in
    let accepted : refusal tables limits (after limits front) events.Switch ≡ None = switch_accepted tables limits is.front a.number n is.accepted in
    let outcome : outcome_of tables (after limits front) events.Switch ≡ outcomes.Switched r.generation r.slots r.rerun =
    switch_outcome tables limits is.front a.number n fin.outcome f.generation f.slots f.rerun is.outcome_is fin.outcome_is
    ∙ sym (same_outcome r.generation r.slots r.rerun f.generation f.slots f.rerun same_generation same_slots same_rerun) in
    let done : All IsWrite (made.others ++ is.later.0) → HasDone edits (0 + (m + n)) (after limits front) =
    λ all. on.alone all edits 0 (subst (λ l. HasDone edits 0 (after limits l)) (sym begun.published.seen) (begun_done limits edits begun.front a.number)) in
    let slots : All IsWrite (made.others ++ is.later.0) → m + n ≡ r.slots =
    λ all. omega (arith, none_left tables limits (after limits front) edits (0 + (m + n)) (done all) accepted, slots_switched tables (after limits front) r.generation r.slots r.rerun outcome) in
    record {
      count = m + n;
      begun = begun.front;
      places = made.places ++ rest;
      others = made.others ++ is.later.0;
      between = on.since;
      front = front;
      grew =
          subst (λ l. GrewBy a e (entries_by a.number l)) (events_made edits m n)
          (grew_on a d e (begun_steps edits m) (steps n ++ events.Switch ∷ []) (grew_begun tables limits edits a b d place begun made) (grew_publishes tables limits _ d e fin.outcome is));
      later = begun.published.later;
      front_is = begun_seen limits edits a.number (m + n) (made.places ++ rest) (made.others ++ is.later.0) begun.front b.seen front begun.published.seen on;
      merged = begun_merged limits edits a.number (m + n) (made.places ++ rest) (made.others ++ is.later.0) begun.front b.seen front begun.published.seen on;
      seen = switch_seen is.front e.seen a.number d.number n number is.seen;
      place_is = same_place ∙ fin.place_is;
      own =
          switch_own a.own d.own e.own made.places rest (numbers_from (length is.front + 1) (length (steps n ++ events.Switch ∷ []))) (length begun.front + 1) r.place
          (begun_own a.own b.own d.own made.places place (length begun.front + 1) begun.published.own begun.published.place_is made.own) is.own
          (switch_places is.front e.seen d.number n r.place is.seen (same_place ∙ fin.place_is));
      accepted = accepted;
      outcome = outcome;
      all_slots = slots;
      same_edits = λ all. (done all).phase ∙ ap (Repairing edits) (let same : 0 + (m + n) ≡ r.slots = omega (arith, slots all) in same);
    }

-- how many slots are left, by the progress of a repair
left_in : (tables : Tables) (phase : Phase) (W : Slots) (p : Progress) → progress_in tables phase W ≡ Some p → p.left ≡ left_of phase W
left_in tables Idle W p h = absurd (cc h)
left_in tables (Repairing edits n) W p h = ap (λ (q : Progress). q.left) (sym (some_is _ p h))

none_left_idle : (tables : Tables) (phase : Phase) (W : Slots) → progress_in tables phase W ≡ None → 0 ≡ left_of phase W
none_left_idle tables Idle W h = refl
none_left_idle tables (Repairing edits n) W h = absurd (cc h)

pub left_by_progress : (tables : Tables) (S : State) (p : Progress) → progress_in tables S.phase S.slots ≡ Some p → p.left ≡ slots_left S
left_by_progress tables S p h = left_in tables S.phase S.slots p h

pub none_left_without_progress : (tables : Tables) (S : State) → progress_in tables S.phase S.slots ≡ None → 0 ≡ slots_left S
none_left_without_progress tables S h = none_left_idle tables S.phase S.slots h
