-- Steps of a repair that are made together.
use Rattle.std.proofs.Common.{◌≡◌, ℕ, zero, suc, ◌+◌, ◌-◌, ◌<◌, ◌≤◌, min, Bool, true, false, ◌||◌, ◌==◌, not, nat_lt, List, [], ◌∷◌, ◌++◌, length, replicate, is_some, None, Some, if◌then◌else◌, refl, sym, ap, subst, ◌∙◌, arith, append-nil, append_assoc, length-append}
use Rattle.std.proofs.lemmas.Bool.Decides.{nat_tests}
use Rattle.std.proofs.lemmas.List.{replicate-append-replicate, length-replicate}
use Rattle.tt_values.specs.Tables.{Tables}
use Rattle.tt_values.specs.RowWrites.{Slots}
use Rattle.tt_generations.specs.TwoGenerations.{TwoGenerations, Phase, Idle, Repairing, is_repairing, left_of, done_of, is_due_in, phase_after_step}
use Rattle.tt_generations.specs.Runs.{after_steps, is_last_due}
use Rattle.tt_generations.proofs.RunLemmas.{left-steps}
use Rattle.tt_db.specs.declared.limits.Limits.{Limits}
use Rattle.tt_db.specs.declared.errors.DbError.{DbError}
use Rattle.tt_db.specs.declared.errors.DbError.TheVariants as errors
use Rattle.tt_db.specs.declared.outcome.Outcome.TheVariants.{Stepped}
use Rattle.tt_db.specs.declared.event.Entry.{Entry}
use Rattle.tt_db.specs.declared.event.Event.TheVariants as events
use Rattle.tt_db.specs.State.{State, after, slots_left, current_at, first_refusal, refused_if, refusal}
use Rattle.tt_db.specs.ClosedGenerations.{KeptGeneration}
use Rattle.tt_db.specs.Database.{Database, state_of, current_slots, with_entry, refusal_of, HasSlots, IsConsistent}
use Rattle.tt_db.specs.Steps.{step_by, with_steps_by, steps_made, last_step, last_outcome}
use Rattle.tt_db.proofs.EntryLemmas.{after-push, full_at-below}
use Rattle.tt_db.proofs.DatabaseLemmas.{IsConsistent-push}

-- ---- their entries

one_more : (n : ℕ) → n + 1 ≡ suc n
one_more n = omega arith

pub steps-entries : (worker : ℕ) (db : Database) (n : ℕ) → with_steps_by worker db n ≡ record db { history = db.history ++ replicate n (step_by worker) }
steps-entries worker db zero = ap (λ h. record db { history = h }) (sym (append-nil db.history))
steps-entries worker db (suc n) =
    let e = step_by worker in
    ap (λ (d : Database). with_entry d e) (steps-entries worker db n)
    ∙ ap (λ h. record db { history = h })
    (append_assoc db.history (replicate n e) (e ∷ []) ∙ ap (λ h. db.history ++ h) (replicate-append-replicate n 1 e ∙ ap (λ m. replicate m e) (one_more n)))

-- a step before others
pub steps-first : (worker : ℕ) (db : Database) (n : ℕ) → with_steps_by worker (with_entry db (step_by worker)) n ≡ with_steps_by worker db (suc n)
steps-first worker db zero = refl
steps-first worker db (suc n) = ap (λ (d : Database). with_entry d (step_by worker)) (steps-first worker db n)

-- they change no current slot
pub steps-slots : (worker : ℕ) (db : Database) (n : ℕ) → current_slots (with_steps_by worker db n) ≡ current_slots db
steps-slots worker db zero = refl
steps-slots worker db (suc n) =
    let before = with_steps_by worker db n in
    ap (λ (S : State). S.slots) (after-push before.limits before.history (step_by worker)) ∙ steps-slots worker db n

pub steps-current : (worker : ℕ) (db : Database) (n : ℕ) (next : Database) → next ≡ with_steps_by worker db n → HasSlots next (current_slots db)
steps-current worker db n next is =
    let slots : current_slots next ≡ current_slots db = ap current_slots is ∙ steps-slots worker db n in
    record { slots = slots; contents = λ time. ap (λ (W : Slots). current_at (record (state_of next) { slots = W }) time) slots }

-- ---- a step that is refused, and one that isn't

repairing-left : (p : Phase) (W : Slots) → 0 < left_of p W → is_repairing p ≡ true
repairing-left Idle W some = absurd (omega (arith, some))
repairing-left (Repairing edits n) W some = refl

zero-test : (n : ℕ) → 0 < n → (n == 0) ≡ false
zero-test n some = grind (arith, nat_tests, some)

same-test : (m n : ℕ) → m ≡ n → (m == n) ≡ true
same-test m n same = grind (arith, nat_tests, same)

pub step-accepted : (tables : Tables) (limits : Limits) (S : State) → 0 < slots_left S → S.events < limits.events → refusal tables limits S events.Step ≡ None
step-accepted tables limits S some room =
    let entries = full_at-below S.events limits.events room in
    rw (repairing-left S.phase S.slots some, zero-test (slots_left S) some, entries) refl

refused-by : (a b c : Bool) (e f g : DbError) → (b || c) ≡ true → is_some (first_refusal (refused_if a e ∷ refused_if b f ∷ refused_if c g ∷ [])) ≡ true
refused-by true b c e f g h = refl
refused-by false true c e f g h = refl
refused-by false false true e f g h = refl
refused-by false false false e f g h = cc

step-refused : (db : Database) → ((slots_left (state_of db) == 0) || ((state_of db).events == db.limits.events)) ≡ true → is_some (refusal_of db events.Step) ≡ true
step-refused db h =
    let S = state_of db in
    refused-by (not (is_repairing S.phase)) (slots_left S == 0) (S.events == db.limits.events) errors.NotRepairing errors.NothingLeft (errors.Full db.limits.events) h

either : (b c : Bool) → c ≡ true → (b || c) ≡ true
either true c h = refl
either false c h = h

-- ---- what a step leaves

left-step : (p : Phase) (W : Slots) → 0 < left_of p W → left_of (phase_after_step p) W + 1 ≡ left_of p W
left-step Idle W some = absurd (omega (arith, some))
left-step (Repairing edits n) W some = omega (arith, some)

record IsStepped (db next : Database) : Type 0 where
  events : (state_of next).events ≡ (state_of db).events + 1
  left : slots_left (state_of next) + 1 ≡ slots_left (state_of db)

is_stepped : (worker : ℕ) (db : Database) → 0 < slots_left (state_of db) → IsStepped db (with_entry db (step_by worker))
is_stepped worker db some =
    let S = state_of db in
    let next = after-push db.limits db.history (step_by worker) in
    record {
      events = ap (λ (T : State). T.events) next;
      left = subst (λ (T : State). slots_left T + 1 ≡ slots_left S) (sym next) (left-step S.phase S.slots some);
    }

-- ---- how many steps are made

pub steps-made : (worker : ℕ) (db : Database) (most : ℕ) → (state_of db).events ≤ db.limits.events
    → steps_made worker db most ≡ min (min most (slots_left (state_of db))) (db.limits.events - (state_of db).events)
steps-made worker db zero within = omega arith
steps-made worker db (suc most) within = by (steps-made worker (with_entry db (step_by worker)) most) (nat_lt 0 left) (nat_lt S.events limit) refl refl
  where
    next : Database
    next = with_entry db (step_by worker)

    S : State
    S = state_of db

    left : ℕ
    left = slots_left (state_of db)

    limit : ℕ
    limit = db.limits.events

    rest : ℕ
    rest = steps_made worker next most

    none : is_some (refusal_of db events.Step) ≡ true → min (min (suc most) left) (limit - S.events) ≡ 0 → (if is_some (refusal_of db events.Step) then 0 else suc rest) ≡ min (min (suc most) left) (limit - S.events)
    none refused zero_left = ap (λ b. if b then 0 else suc rest) refused ∙ sym zero_left

    by : ((state_of next).events ≤ limit → rest ≡ min (min most (slots_left (state_of next))) (limit - (state_of next).events))
        → (a b : Bool) → nat_lt 0 left ≡ a → nat_lt S.events limit ≡ b → (if is_some (refusal_of db events.Step) then 0 else suc rest) ≡ min (min (suc most) left) (limit - S.events)
    by others true true some room =
        let some_left : 0 < left = grind (arith, nat_tests) in
        let below : S.events < limit = grind (arith, nat_tests) in
        let step = is_stepped worker db some_left in
        let rest_is = others (omega (arith, step.events, below)) in
        ap (λ refused. if is_some refused then 0 else suc rest) (step-accepted db.catalog db.limits S some_left below) ∙ omega (arith, rest_is, step.events, step.left, below)
    by others false b some room =
        let nothing : left ≡ 0 = grind (arith, nat_tests) in
        none (step-refused db (ap (λ c. c || (S.events == limit)) (same-test left 0 nothing))) (omega (arith, nothing))
    by others true false some room =
        let full : S.events ≡ limit = grind (arith, nat_tests, within) in
        none (step-refused db (either (left == 0) (S.events == limit) (same-test S.events limit full))) (omega (arith, full))

-- ---- the tables of two generations after them

catalog-steps : (n : ℕ) (G : TwoGenerations) → (after_steps n G).catalog ≡ G.catalog
catalog-steps zero G = refl
catalog-steps (suc n) G = catalog-steps n G

entries-push : (history : List Entry) (n : ℕ) (e : Entry) → (history ++ replicate n e) ++ e ∷ [] ≡ history ++ replicate (suc n) e
entries-push history n e = append_assoc history (replicate n e) (e ∷ []) ∙ ap (λ h. history ++ h) (replicate-append-replicate n 1 e ∙ ap (λ m. replicate m e) (one_more n))

length-entries : (history : List Entry) (n : ℕ) (e : Entry) → length (history ++ replicate n e) ≡ length history + n
length-entries history n e = omega (arith, length-append history (replicate n e), length-replicate n e)

pub slots_left-consistent : (limits : Limits) (history : List Entry) (G : TwoGenerations) (number : ℕ) (kept : List KeptGeneration) → IsConsistent limits history G number kept
    → left_of G.phase G.slots ≡ slots_left (after limits history)
slots_left-consistent limits history G number kept is = λ i. left_of (is.phase i) (is.slots i)

-- what is asked of steps: as many slots are left, and there is room for their entries
pub record HasRoomFor (limits : Limits) (history : List Entry) (G : TwoGenerations) (n : ℕ) : Type 0 where
  pub left : n ≤ left_of G.phase G.slots
  pub room : length history + n ≤ limits.events

pub has_room : (limits : Limits) (history : List Entry) (G : TwoGenerations) (number : ℕ) (kept : List KeptGeneration) (n : ℕ) → IsConsistent limits history G number kept
    → n ≤ slots_left (after limits history) → (after limits history).events + n ≤ limits.events → HasRoomFor limits history G n
has_room limits history G number kept n is left room =
    let same = slots_left-consistent limits history G number kept is in
    record { left = omega (arith, left, same); room = omega (arith, room, is.events) }

pub IsConsistent-steps : (limits : Limits) (history : List Entry) (G : TwoGenerations) (number : ℕ) (kept : List KeptGeneration) (worker n : ℕ) → IsConsistent limits history G number kept
    → HasRoomFor limits history G n → IsConsistent limits (history ++ replicate n (step_by worker)) (after_steps n G) number kept
IsConsistent-steps limits history G number kept worker zero is has = subst (λ (h : List Entry). IsConsistent limits h G number kept) (sym (append-nil history)) is
IsConsistent-steps limits history G number kept worker (suc n) is has =
    let e = step_by worker in
    let H = history ++ replicate n e in
    let before = IsConsistent-steps limits history G number kept worker n is (record { left = omega (arith, has.left); room = omega (arith, has.room) }) in
    let left = left-steps n G (omega (arith, has.left)) in
    let same = slots_left-consistent limits H (after_steps n G) number kept before in
    let accepted = step-accepted (after_steps n G).catalog limits (after limits H) (omega (arith, left, same, has.left)) (omega (arith, before.events, length-entries history n e, has.room)) in
    subst (λ (h : List Entry). IsConsistent limits h (after_steps (suc n) G) number kept) (entries-push history n e) (IsConsistent-push limits H (after_steps n G) number kept e before accepted)

-- ---- the outcome of the last

done-step : (p : Phase) (W : Slots) → 0 < left_of p W → done_of (phase_after_step p) ≡ done_of p + 1
done-step Idle W some = absurd (omega (arith, some))
done-step (Repairing edits n) W some = omega arith

pub last_outcome-is : (limits : Limits) (history : List Entry) (G : TwoGenerations) (number : ℕ) (kept : List KeptGeneration) (worker n : ℕ) (rerun : Bool)
    → IsConsistent limits history G number kept → HasRoomFor limits history G n → rerun ≡ is_last_due n G
    → last_step n (done_of (after limits (history ++ replicate n (step_by worker))).phase) rerun ≡ last_outcome worker (record { catalog = G.catalog; limits = limits; history = history }) n
last_outcome-is limits history G number kept worker zero rerun is has due = refl
last_outcome-is limits history G number kept worker (suc n) rerun is has due =
    let e = step_by worker in
    let db : Database = record { catalog = G.catalog; limits = limits; history = history } in
    let S = after limits (history ++ replicate n e) in
    let before = IsConsistent-steps limits history G number kept worker n is (record { left = omega (arith, has.left); room = omega (arith, has.room) }) in
    let behind = IsConsistent-steps limits history G number kept worker (suc n) is has in
    let H = after_steps n G in
    let left = left-steps n G (omega (arith, has.left)) in
    let done : done_of (after limits (history ++ replicate (suc n) e)).phase ≡ done_of S.phase + 1 =
    ap done_of (sym behind.phase) ∙ done-step H.phase H.slots (omega (arith, left, has.left)) ∙ ap (λ p. done_of p + 1) before.phase in
    let is_due : rerun ≡ is_due_in G.catalog S.phase S.slots = due ∙ (λ i. is_due_in (catalog-steps n G i) (before.phase i) (before.slots i)) in
    (λ i. Some (Stepped (done i) (is_due i))) ∙ ap (λ (d : Database). Some (Stepped (done_of (state_of d).phase + 1) (is_due_in d.catalog (state_of d).phase (state_of d).slots))) (sym (steps-entries worker db n))
