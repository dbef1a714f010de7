-- How calls of a store make a worker's entries grow, and a history go on.
use Rattle.std.proofs.Common.{◌≡◌, ℕ, zero, suc, ◌+◌, ◌-◌, ◌*◌, ◌/◌, ◌%◌, ◌<◌, ◌≤◌, nat_lt, min, Bool, true, false, List, [], ◌∷◌, ◌++◌, length, fold, All, Option, Some, refl, sym, ap, subst, ◌∙◌, inl, inr, ⊎_elim, arith, append_assoc, length-append}
use Rattle.std.proofs.Math.Nat.{min-le_left, min-le_right, mul-le-mul_right}
use Rattle.std.proofs.lemmas.Grind.{div_ceil_times}
use Rattle.std.proofs.lemmas.Bool.Decides.{nat_tests}
use Rattle.std.proofs.lemmas.List.{append-nil, length-map, replicate-append-replicate}
use Rattle.std.proofs.lemmas.List.Elements.{All-nil, All-cons, All-head, All-tail}
use Rattle.std.proofs.lemmas.List.Sums.{fold-append}
use mathlib.Core.List.{IsPrefix}
use Rattle.tt_values.specs.Tables.{Tables}
use Rattle.tt_repair_laws.specs.declared.edit.Edit.{Edit}
use Rattle.tt_values.specs.RowWrites.{Slots}
use Rattle.tt_generations.specs.TwoGenerations.{Phase, Idle, Repairing, phase_after_step, left_of}
use Rattle.tt_generations.specs.declared.progress.Progress.{Progress}
use Rattle.tt_db.specs.declared.limits.Limits.{Limits}
use Rattle.tt_db.specs.declared.event.Event.{Event}
use Rattle.tt_db.specs.declared.event.Event.TheVariants as events
use Rattle.tt_db.specs.declared.event.Entry.{Entry}
use Rattle.tt_db.specs.declared.outcome.Outcome.{Outcome}
use Rattle.tt_db.specs.State.{State, start, after, next_state, now_of, slots_left}
use Rattle.tt_store.specs.declared.errors.StoreError.{StoreError}
use Rattle.tt_store.specs.History.{entries_by}
use Rattle.tt_store.specs.Calls.{steps, steps_wanted, events_of, state_after, numbers_from}
use Rattle.tt_store.specs.Workers.{WorkerState, Looks, Publishes, IsRefused, own_entries}
use Rattle.tt_store.specs.Store.{PublishesOne, Stepped}
use Rattle.tt_store.proofs.Prefixes.{prefix_self, prefix_trans}
use Rattle.tt_store.proofs.CallLemmas.{after-entries, entries_by-append}
use Rattle.tt_repair.specs.Growth.{GrewBy, IsMergedAt, IsWrite, HasDone, GoesOn, MadeSteps, MadeAllSteps, StoppedStepping, StoppedEarly, IsRefusedWith}

-- a worker that looks makes nothing
pub grew_none : (a b : WorkerState) → Looks a b → GrewBy a b []
grew_none a b h = record { number = h.number; seen = h.seen; entries = h.entries ∙ sym (append-nil (own_entries a)) }

pub grew_then : (a b c : WorkerState) (xs ys : List Entry) → GrewBy a b xs → GrewBy b c ys → GrewBy a c (xs ++ ys)
grew_then a b c xs ys p q = record {
  number = q.number ∙ p.number;
  seen = prefix_trans a.seen b.seen c.seen p.seen q.seen;
  entries = q.entries ∙ ap (λ w. w ++ ys) p.entries ∙ append_assoc (own_entries a) xs ys;
}

-- and so for the entries of events
pub grew_on : (a b c : WorkerState) (xs ys : List Event) → GrewBy a b (entries_by a.number xs) → GrewBy b c (entries_by b.number ys)
    → GrewBy a c (entries_by a.number (xs ++ ys))
grew_on a b c xs ys p q =
    subst (GrewBy a c) (sym (entries_by-append a.number xs ys))
    (grew_then a b c (entries_by a.number xs) (entries_by a.number ys) p (subst (λ n. GrewBy b c (entries_by n ys)) p.number q))

pub grew_publishes : (tables : Tables) (limits : Limits) (call : _) (old new : WorkerState) (o : Option Outcome)
    → (is : Publishes tables limits call old new o) → GrewBy old new (entries_by old.number (events_of call (after limits is.front)))
grew_publishes tables limits call old new o is = record {
  number = is.number;
  seen = prefix_trans old.seen is.front new.seen is.later (entries_by old.number (events_of call (after limits is.front)), sym is.seen);
  entries = is.entries;
}

pub grew_one : (tables : Tables) (limits : Limits) (event : Event) (old new : WorkerState) (front : List Entry) (place : ℕ)
    → PublishesOne tables limits event old new front place → GrewBy old new (entries_by old.number (event ∷ []))
grew_one tables limits event old new front place is = record {
  number = is.number;
  seen = prefix_trans old.seen front new.seen is.later (entries_by old.number (event ∷ []), sym is.seen);
  entries = is.entries;
}

-- lists merged
merged_first : {X : Type 0} (place : ℕ) (xs : List X) → IsMergedAt place (numbers_from place (length xs)) xs [] xs
merged_first place [] = (refl, refl, refl)
merged_first place (x ∷ xs) = inl (numbers_from (place + 1) (length xs), xs, refl, refl, merged_first (place + 1) xs)

merged_second : {X : Type 0} (place : ℕ) (ys : List X) → IsMergedAt place [] [] ys ys
merged_second place [] = (refl, refl, refl)
merged_second place (y ∷ ys) = inr (ys, refl, merged_second (place + 1) ys)

merged-append : {X : Type 0} (place next : ℕ) (places later : List ℕ) (xs ys zs us vs ws : List X) → next ≡ place + length zs
    → IsMergedAt place places xs ys zs → IsMergedAt next later us vs ws → IsMergedAt place (places ++ later) (xs ++ us) (ys ++ vs) (zs ++ ws)
merged-append place next places later xs ys [] us vs ws is p q =
    subst (λ l. IsMergedAt place (l ++ later) (xs ++ us) (ys ++ vs) ws) (sym p.0)
    (subst (λ l. IsMergedAt place later (l ++ us) (ys ++ vs) ws) (sym p.1)
    (subst (λ l. IsMergedAt place later us (l ++ vs) ws) (sym p.2)
    (subst (λ k. IsMergedAt k later us vs ws) (let same : next ≡ place = omega (arith, is) in same) q)))
merged-append {X} place next places later xs ys (z ∷ zs) us vs ws is p q =
    let is' : next ≡ place + 1 + length zs = omega (arith, is) in
    ⊎_elim
    (λ (t : (more : List ℕ) × (rest : List X) × (places ≡ place ∷ more) × (xs ≡ z ∷ rest) × IsMergedAt (place + 1) more rest ys zs).
    inl (t.0 ++ later, t.1 ++ us, ap (λ l. l ++ later) t.2, ap (λ l. l ++ us) t.3, merged-append (place + 1) next t.0 later t.1 ys zs us vs ws is' t.4 q))
    (λ (t : (rest : List X) × (ys ≡ z ∷ rest) × IsMergedAt (place + 1) places xs rest zs).
    inr (t.0 ++ vs, ap (λ l. l ++ vs) t.1, merged-append (place + 1) next places later xs t.0 zs us vs ws is' t.2 q))
    p

-- others' entries, and own ones behind them
merged_behind : {X : Type 0} (place next : ℕ) (others own : List X) → next ≡ place + length others → IsMergedAt place (numbers_from next (length own)) own others (others ++ own)
merged_behind {X} place next others own is =
    subst (λ l. IsMergedAt place (numbers_from next (length own)) own l (others ++ own)) (append-nil others)
    (merged-append place next [] (numbers_from next (length own)) [] others others own [] own is (merged_second place others) (merged_first next own))

-- all of two lists
all_first : {X : Type 0} (P : X → Type 0) (xs ys : List X) → All P (xs ++ ys) → All P xs
all_first P [] ys h = All-nil P
all_first P (x ∷ xs) ys h = All-cons P x xs (All-head P x (xs ++ ys) h) (all_first P xs ys (All-tail P x (xs ++ ys) h))

all_second : {X : Type 0} (P : X → Type 0) (xs ys : List X) → All P (xs ++ ys) → All P ys
all_second P [] ys h = h
all_second P (x ∷ xs) ys h = all_second P xs ys (All-tail P x (xs ++ ys) h)

-- an action leaves the repair under way
write_leaves : (limits : Limits) (S : State) (edits : List Edit) (done : ℕ) (e : Entry) → IsWrite e → HasDone edits done S → HasDone edits done (next_state limits S e.event)
write_leaves limits S edits done e w h =
    subst (λ event. HasDone edits done (next_state limits S event)) (sym w.1)
    (record { phase = h.phase; within = omega (arith, h.within, length-append S.slots (Some w.0 ∷ [])) })

writes_leave : (limits : Limits) (S : State) (edits : List Edit) (done : ℕ) (more : List Entry) → All IsWrite more → HasDone edits done S
    → HasDone edits done (fold (λ T e. next_state limits T e.event) S more)
writes_leave limits S edits done [] all h = h
writes_leave limits S edits done (e ∷ more) all h =
    writes_leave limits (next_state limits S e.event) edits done more (All-tail IsWrite e more all) (write_leaves limits S edits done e (All-head IsWrite e more all) h)

-- and it takes no slot away
write_keeps : (limits : Limits) (S : State) (e : Entry) → IsWrite e → now_of S ≤ now_of (next_state limits S e.event)
write_keeps limits S e w =
    subst (λ event. now_of S ≤ now_of (next_state limits S event)) (sym w.1) (omega (arith, length-append S.slots (Some w.0 ∷ [])))

writes_keep : (limits : Limits) (S : State) (more : List Entry) → All IsWrite more → now_of S ≤ now_of (fold (λ T e. next_state limits T e.event) S more)
writes_keep limits S [] all = omega arith
writes_keep limits S (e ∷ more) all =
    omega (arith, write_keeps limits S e (All-head IsWrite e more all), writes_keep limits (next_state limits S e.event) more (All-tail IsWrite e more all))

-- the state at a front that goes on by entries of others
state_at_front : (limits : Limits) (seen front : List Entry) → (later : IsPrefix seen front) → after limits front ≡ fold (λ T e. next_state limits T e.event) (after limits seen) later.0
state_at_front limits seen front later = ap (after limits) (sym later.1) ∙ fold-append (λ T e. next_state limits T e.event) start seen later.0

done_at_front : (limits : Limits) (seen front : List Entry) (edits : List Edit) (done : ℕ) → (later : IsPrefix seen front) → All IsWrite later.0
    → HasDone edits done (after limits seen) → HasDone edits done (after limits front)
done_at_front limits seen front edits done later all h =
    subst (HasDone edits done) (sym (state_at_front limits seen front later)) (writes_leave limits (after limits seen) edits done later.0 all h)

slots_at_front : (limits : Limits) (seen front : List Entry) → (later : IsPrefix seen front) → All IsWrite later.0 → now_of (after limits seen) ≤ now_of (after limits front)
slots_at_front limits seen front later all =
    subst (λ S. now_of (after limits seen) ≤ now_of S) (sym (state_at_front limits seen front later)) (writes_keep limits (after limits seen) later.0 all)

-- steps do slots
step_does : (limits : Limits) (S : State) (edits : List Edit) (done : ℕ) → done + 1 ≤ now_of S → HasDone edits done S → HasDone edits (suc done) (next_state limits S events.Step)
step_does limits S edits done le h = record { phase = ap phase_after_step h.phase; within = omega (arith, le) }

steps_do : (limits : Limits) (n : ℕ) (S : State) (edits : List Edit) (done : ℕ) → done + n ≤ now_of S → HasDone edits done S
    → HasDone edits (done + n) (state_after limits S (steps n))
steps_do limits zero S edits done le h = subst (λ k. HasDone edits k S) (let same : done ≡ done + 0 = omega arith in same) h
steps_do limits (suc n) S edits done le h =
    subst (λ k. HasDone edits k (state_after limits (next_state limits S events.Step) (steps n))) (let same : suc done + n ≡ done + suc n = omega arith in same)
    (steps_do limits n (next_state limits S events.Step) edits (suc done) (omega (arith, le)) (step_does limits S edits done (omega (arith, le)) h))

steps_keep : (limits : Limits) (n : ℕ) (S : State) → now_of (state_after limits S (steps n)) ≡ now_of S
steps_keep limits zero S = refl
steps_keep limits (suc n) S = steps_keep limits n (next_state limits S events.Step)

-- a call for steps makes no more than there are slots left
wanted_in : (most : ℕ) (W : _) (g m : ℕ) (closed : _) (phase : Phase) (edits : List Edit) (done : ℕ) → phase ≡ Repairing edits done → done ≤ length W
    → done + steps_wanted most (record { slots = W; generation = g; events = m; phase = phase; closed = closed }) ≤ length W
wanted_in most W g m closed phase edits done is le =
    subst (λ p. done + steps_wanted most (record { slots = W; generation = g; events = m; phase = p; closed = closed }) ≤ length W) (sym is)
    (omega (arith, le, min-le_right most (length W - done)))

wanted_within : (most : ℕ) (S : State) (edits : List Edit) (done : ℕ) → HasDone edits done S → done + steps_wanted most S ≤ now_of S
wanted_within most S edits done h = wanted_in most S.slots S.generation S.events S.closed S.phase edits done h.phase h.within

-- nor more than it is asked for
wanted_at_most_in : (most : ℕ) (W : Slots) (g m : ℕ) (closed : _) (phase : Phase) → 1 ≤ most
    → steps_wanted most (record { slots = W; generation = g; events = m; phase = phase; closed = closed }) ≤ most
wanted_at_most_in most W g m closed Idle pos = pos
wanted_at_most_in most W g m closed (Repairing edits done) pos = min-le_left most (length W - done)

wanted_at_most : (most : ℕ) (S : State) → 1 ≤ most → steps_wanted most S ≤ most
wanted_at_most most S pos = wanted_at_most_in most S.slots S.generation S.events S.closed S.phase pos

-- but all of these if there are as many
wanted_is_in : (most : ℕ) (W : Slots) (g m : ℕ) (closed : _) (phase : Phase) (edits : List Edit) (done : ℕ) → phase ≡ Repairing edits done
    → steps_wanted most (record { slots = W; generation = g; events = m; phase = phase; closed = closed }) ≡ min most (length W - done)
wanted_is_in most W g m closed phase edits done is =
    subst (λ p. steps_wanted most (record { slots = W; generation = g; events = m; phase = p; closed = closed }) ≡ min most (length W - done)) (sym is) refl

wanted_is : (most : ℕ) (S : State) (edits : List Edit) (done : ℕ) → HasDone edits done S → steps_wanted most S ≡ min most (now_of S - done)
wanted_is most S edits done h = wanted_is_in most S.slots S.generation S.events S.closed S.phase edits done h.phase

-- a history goes on by itself
no_steps : (limits : Limits) (worker : ℕ) (history : List Entry) → GoesOn limits worker 0 [] [] history history
no_steps limits worker history = record {
  since = [];
  is = sym (append-nil history);
  merged = (refl, refl, refl);
  alone = λ all edits done h. subst (λ k. HasDone edits k (after limits history)) (let same : done ≡ done + 0 = omega arith in same) h;
}

entries_of_steps : (worker m n : ℕ) → entries_by worker (steps m) ++ entries_by worker (steps n) ≡ entries_by worker (steps (m + n))
entries_of_steps worker m n =
    sym (entries_by-append worker (steps m) (steps n)) ∙ ap (entries_by worker) (replicate-append-replicate m n events.Step)

-- the place behind a history that has gone on
next_place : (a b since : List Entry) → b ≡ a ++ since → length b + 1 ≡ length a + 1 + length since
next_place a b since is = omega (arith, ap length is ∙ length-append a since)

pub goes_on_then : (limits : Limits) (worker m n : ℕ) (places later : List ℕ) (others more : List Entry) (a b c : List Entry) → GoesOn limits worker m places others a b
    → GoesOn limits worker n later more b c → GoesOn limits worker (m + n) (places ++ later) (others ++ more) a c
goes_on_then limits worker m n places later others more a b c p q = record {
  since = p.since ++ q.since;
  is = q.is ∙ ap (λ l. l ++ q.since) p.is ∙ append_assoc a p.since q.since;
  merged =
      subst (λ l. IsMergedAt (length a + 1) (places ++ later) l (others ++ more) (p.since ++ q.since)) (entries_of_steps worker m n)
      (merged-append (length a + 1) (length b + 1) places later (entries_by worker (steps m)) others p.since (entries_by worker (steps n)) more q.since
      (next_place a b p.since p.is) p.merged q.merged);
  alone = λ all edits done h. subst (λ k. HasDone edits k (after limits c)) (let same : done + m + n ≡ done + (m + n) = omega arith in same)
      (q.alone (all_second IsWrite others more all) edits (done + m) (p.alone (all_first IsWrite others more all) edits done h));
}

-- the places of n steps behind a front
abbrev pub places_behind : List Entry → ℕ → List ℕ
places_behind front n = numbers_from (length front + 1) (length (steps n))

-- steps at a front that goes on by entries of others
pub steps_behind : (limits : Limits) (worker n : ℕ) (seen front : List Entry) → (later : IsPrefix seen front)
    → ((edits : List Edit) (done : ℕ) → HasDone edits done (after limits front) → done + n ≤ now_of (after limits front))
    → GoesOn limits worker n (places_behind front n) later.0 seen (front ++ entries_by worker (steps n))
steps_behind limits worker n seen front later within = record {
  since = later.0 ++ entries_by worker (steps n);
  is = ap (λ l. l ++ entries_by worker (steps n)) (sym later.1) ∙ append_assoc seen later.0 (entries_by worker (steps n));
  merged =
      subst (λ k. IsMergedAt (length seen + 1) (numbers_from (length front + 1) k) (entries_by worker (steps n)) later.0 (later.0 ++ entries_by worker (steps n)))
      (length-map (steps n) (λ event. record { worker = worker; event = event }))
      (merged_behind (length seen + 1) (length front + 1) later.0 (entries_by worker (steps n)) (next_place seen front later.0 (sym later.1)));
  alone = λ all edits done h.
      let there = done_at_front limits seen front edits done later all h in
      subst (HasDone edits (done + n)) (sym (after-entries limits front worker (steps n)))
      (steps_do limits n (after limits front) edits done (within edits done there) there);
}

-- a worker that makes no step
pub made_none : (limits : Limits) (w : WorkerState) → MadeSteps limits w w
made_none limits w = record {
  count = 0;
  places = [];
  others = [];
  goes_on = no_steps limits w.number w.seen;
  grew = record { number = refl; seen = prefix_self w.seen; entries = sym (append-nil (own_entries w)) };
  own = sym (append-nil w.own);
}

pub made_then : (limits : Limits) (a b c : WorkerState) → MadeSteps limits a b → MadeSteps limits b c → MadeSteps limits a c
made_then limits a b c p q = record {
  count = p.count + q.count;
  places = p.places ++ q.places;
  others = p.others ++ q.others;
  goes_on =
      goes_on_then limits a.number p.count q.count p.places q.places p.others q.others a.seen b.seen c.seen p.goes_on
      (subst (λ n. GoesOn limits n q.count q.places q.others b.seen c.seen) p.grew.number q.goes_on);
  grew =
      subst (λ l. GrewBy a c (entries_by a.number l)) (replicate-append-replicate p.count q.count events.Step)
      (grew_on a b c (steps p.count) (steps q.count) p.grew q.grew);
  own = q.own ∙ ap (λ l. l ++ q.places) p.own ∙ append_assoc a.own p.places q.places;
}

-- one call for steps
pub made_steps : (tables : Tables) (limits : Limits) (most : ℕ) (old new : WorkerState) (p : Progress) → Stepped tables limits most old new p → MadeSteps limits old new
made_steps tables limits most old new p s =
    let is = s.published in
    let n = steps_wanted most (after limits is.front) in
    record {
      count = n;
      places = places_behind is.front n;
      others = is.later.0;
      goes_on =
          subst (GoesOn limits old.number n (places_behind is.front n) is.later.0 old.seen) (sym is.seen)
          (steps_behind limits old.number n old.seen is.front is.later (wanted_within most (after limits is.front)));
      grew = grew_publishes tables limits _ old new s.outcome is;
      own = is.own;
    }

-- steps for all slots that were left at the start, and more of them
pub made_all_then : (limits : Limits) (a b c : WorkerState) → MadeAllSteps limits a b → MadeSteps limits b c → MadeAllSteps limits a c
unfolding made_then
made_all_then limits a b c p q = record {
  made = made_then limits a b c p.made q;
  all = λ all. omega (arith, p.all (all_first IsWrite p.made.others q.others all));
}

pub made_then_all : (limits : Limits) (a b c : WorkerState) → MadeSteps limits a b → MadeAllSteps limits b c → MadeSteps limits a c
made_then_all limits a b c p q = made_then limits a b c p q.made

-- a worker has made this number of publishes of steps, each of at most `most` steps. Where the others only wrote, no slot is gone, and each
-- publish was of as many steps as it could be until there was one for each slot that was left at the start
pub record MadePublishes (limits : Limits) (most publishes : ℕ) (old new : WorkerState) : Type 0 where
  pub made : MadeSteps limits old new
  pub at_most : made.count ≤ publishes * most
  pub kept : All IsWrite made.others → now_of (after limits old.seen) ≤ now_of (after limits new.seen)
  pub all : All IsWrite made.others → min (publishes * most) (slots_left (after limits old.seen)) ≤ made.count

pub no_publishes : (limits : Limits) (most : ℕ) (w : WorkerState) → MadePublishes limits most 0 w w
unfolding made_none
no_publishes limits most w = record {
  made = made_none limits w;
  at_most = omega arith;
  kept = λ all. omega arith;
  all = λ all. omega arith;
}

-- a publish more, of as many steps as it can be
all_more : (W : Slots) (phase : Phase) (most k m n now : ℕ) → length W ≤ now → min (k * most) (left_of phase W) ≤ m
    → ((edits : List Edit) (done : ℕ) → phase ≡ Repairing edits done → done ≤ length W → n ≡ min most (now - (done + m)))
    → min ((k + 1) * most) (left_of phase W) ≤ m + n
all_more W Idle most k m n now kept so_far h = omega arith
all_more W (Repairing edits done) most k m n now kept so_far h = by (nat_lt (length W) done) refl
  where
    by : (b : Bool) → nat_lt (length W) done ≡ b → min ((k + 1) * most) (left_of (Repairing edits done) W) ≤ m + n
    by true past = let none : length W < done = grind (arith, nat_tests) in omega (arith, none)
    by false within = let there : done ≤ length W = grind (arith, nat_tests) in omega (arith, there, h edits done refl there)

pub publishes_more : (tables : Tables) (limits : Limits) (most k next : ℕ) (a b c : WorkerState) (p : Progress) → 1 ≤ most → next ≡ k + 1
    → MadePublishes limits most k a b → Stepped tables limits most b c p → MadePublishes limits most next a c
unfolding made_then made_steps
publishes_more tables limits most k next a b c p pos is so_far s =
    let published = s.published in
    let front = published.front in
    let later = published.later in
    let made = so_far.made in
    let S0 = after limits a.seen in
    let S = after limits front in
    let m = made.count in
    let n = steps_wanted most S in
    let at_front : All IsWrite made.others → All IsWrite later.0 → now_of S0 ≤ now_of S =
    λ first second. omega (arith, so_far.kept first, slots_at_front limits b.seen front later second) in
    let kept : now_of (after limits c.seen) ≡ now_of S =
    ap (λ l. now_of (after limits l)) published.seen ∙ ap now_of (after-entries limits front b.number (steps n)) ∙ steps_keep limits n S in
    subst (λ j. MadePublishes limits most j a c) (sym is) (record {
      made = made_then limits a b c made (made_steps tables limits most b c p s);
      at_most = omega (arith, so_far.at_most, wanted_at_most most S pos);
      kept = λ all. omega (arith, kept, at_front (all_first IsWrite made.others later.0 all) (all_second IsWrite made.others later.0 all));
      all = λ all.
          let first = all_first IsWrite made.others later.0 all in
          let second = all_second IsWrite made.others later.0 all in
          all_more S0.slots S0.phase most k m n (now_of S) (at_front first second) (so_far.all first)
          (λ edits done phase within. wanted_is most S edits (done + m)
          (done_at_front limits b.seen front edits (done + m) later second (made.goes_on.alone first edits done (record { phase = phase; within = within }))));
    })

-- the publishes that the slots need that are left at the start, and fewer of them
enough : (most left publishes k m : ℕ) → publishes ≡ left / most + min 1 (left % most) → 1 ≤ most → publishes ≤ k → min (k * most) left ≤ m → left ≤ m
enough most left publishes k m is pos le all =
    let within : left / most + min 1 (left % most) ≤ k = omega arith in
    omega (arith, (div_ceil_times left most pos).0, mul-le-mul_right most within)

too_few : (most left publishes k m : ℕ) → publishes ≡ left / most + min 1 (left % most) → 1 ≤ most → k < publishes → m ≤ k * most → m < left
too_few most left publishes k m is pos less at_most =
    let within : k + 1 ≤ left / most + min 1 (left % most) = omega arith in
    omega (arith, (div_ceil_times left most pos).1, mul-le-mul_right most within)

-- the slots that a worker sees left need this number of publishes, each of at most `most` steps
pub record NeedPublishes (limits : Limits) (most step left publishes : ℕ) (seen : List Entry) : Type 0 where
  pub left_is : left ≡ slots_left (after limits seen)
  pub publishes_is : publishes ≡ left / step + min 1 (left % step)
  pub step_is : step ≡ most
  pub some : 1 ≤ most

needed : (limits : Limits) (most step left publishes : ℕ) (seen : List Entry) → NeedPublishes limits most step left publishes seen
    → publishes ≡ left / most + min 1 (left % most)
needed limits most step left publishes seen need = subst (λ k. publishes ≡ left / k + min 1 (left % k)) need.step_is need.publishes_is

pub made_all : (limits : Limits) (most step left publishes k : ℕ) (a b : WorkerState) → NeedPublishes limits most step left publishes a.seen
    → publishes ≤ k → MadePublishes limits most k a b → MadeAllSteps limits a b
made_all limits most step left publishes k a b need le so_far = record {
  made = so_far.made;
  all = λ all. subst (λ l. l ≤ so_far.made.count) need.left_is
      (enough most left publishes k so_far.made.count (needed limits most step left publishes a.seen need) need.some le
      (subst (λ l. min (k * most) l ≤ so_far.made.count) (sym need.left_is) (so_far.all all)));
}

-- a call that is refused, by the events that it makes
pub refused_with : (tables : Tables) (limits : Limits) (made : State → List Event) (call : _) (a b : WorkerState) (cause : StoreError)
    → ((S : State) → events_of call S ≡ made S) → IsRefused tables limits call a b cause → IsRefusedWith tables limits made a b cause
refused_with tables limits made call a b cause same refused = (call, same, refused)

-- a call that is refused behind too few publishes
pub stopped_early : (tables : Tables) (limits : Limits) (made : State → List Event) (most step left publishes k : ℕ) (a b c : WorkerState) (cause : StoreError)
    → NeedPublishes limits most step left publishes a.seen → k < publishes
    → MadePublishes limits most k a b → IsRefusedWith tables limits made b c cause → StoppedEarly tables limits made a c cause
stopped_early tables limits made most step left publishes k a b c cause need less so_far refused = record {
  stopped = record { middle = b; before = so_far.made; refused = refused };
  fewer = subst (λ l. so_far.made.count < l) need.left_is
      (too_few most left publishes k so_far.made.count (needed limits most step left publishes a.seen need) need.some less so_far.at_most);
}

pub stopped_later : (tables : Tables) (limits : Limits) (made : State → List Event) (a b c : WorkerState) (cause : StoreError)
    → MadeSteps limits a b → StoppedStepping tables limits made b c cause → StoppedStepping tables limits made a c cause
stopped_later tables limits made a b c cause before s = record { middle = s.middle; before = made_then limits a b s.middle before s.before; refused = s.refused }
