-- The steps of a repair, and its ends.
use Rattle.std.proofs.Common.{◌≡◌, ℕ, suc, ◌+◌, ◌<◌, ◌≤◌, true, false, ◌&&◌, ◌==◌, nat_lt, [], ◌∷◌, replicate, Option, None, Some, Result, Ok, Err, refl, sym, ap, subst, ◌∙◌, arith, append-nil, append_assoc}
use Rattle.std.specs.Prelude.{IsErrAnd}
use Rattle.std.proofs.lemmas.Bool.Decides.{nat_tests}
use Rattle.tt_generations.specs.TwoGenerations.{Phase, is_repairing}
use Rattle.tt_db.specs.declared.event.Event.{Event}
use Rattle.tt_db.specs.declared.event.Event.TheVariants as events
use Rattle.tt_db.specs.declared.errors.DbError.{DbError}
use Rattle.tt_db.specs.declared.errors.DbError.TheVariants as errors
use Rattle.tt_db.specs.State.{next_state, slots_left, unless_repairing}
use Rattle.tt_db.specs.Database.{Database, state_of, refusal_of}
use Rattle.tt_db.specs.Steps.{with_steps_by, steps_made}
use Rattle.tt_answers.specs.declared.answer.Refusal.{Refusal}
use Rattle.tt_db.proofs.EntryLemmas.{full_at-below, is_after_step}
use Rattle.tt_db.proofs.StepsLemmas.{steps-entries, steps-made}
use Rattle.tt_commands.specs.declared.response.Response.{Response}
use Rattle.tt_commands.specs.declared.failure.Failure.{Failure}
use Rattle.tt_commands.specs.declared.failure.Failure.TheVariants as failures
use Rattle.tt_commands.specs.Failures.{failure_of_event, IsRefusal, FailsWith}
use Rattle.tt_commands.specs.Session.{OpenSession}
use Rattle.tt_commands.specs.Answers.{Answered, answered_by, Becomes}
use Rattle.tt_commands.specs.Room.{has_no_room_to_end, events_at_end, refusal_in_session, CanEnd}
use Rattle.tt_commands.specs.Repairing.{entry_by, with_event, with_steps, unless_refused}

-- ---- what becomes of a request

pub carried : (session : OpenSession) (response : Response) (refusal : Option DbError) (expected : Answered)
    → refusal ≡ None → expected ≡ answered_by session response → Becomes session (Ok response) (unless_refused refusal expected)
carried session response refusal expected none is = rw (none, is) refl

pub refused : (session : OpenSession) (error : DbError) (refusal : Option DbError) (expected : Answered)
    → IsRefusal error refusal → Becomes session (Err (failure_of_event error)) (unless_refused refusal expected)
refused session (errors.Statement fault) refusal expected is = rw is refl
refused session errors.Repairing refusal expected is = rw is refl
refused session errors.NotRepairing refusal expected is = rw is refl
refused session (errors.NotCaughtUp left) refusal expected is = rw is refl
refused session errors.NothingLeft refusal expected is = rw is refl
refused session (errors.NoSlot t) refusal expected is = rw is refl
refused session (errors.EditTwice t) refusal expected is = rw is refl
refused session errors.TooManyEdits refusal expected is = rw is refl
refused session (errors.Full limit) refusal expected is = rw is refl
refused session errors.Memory refusal expected is = tt

-- without memory nothing is said
pub memory_becomes : (session : OpenSession) (r : Result Response Failure) (expected : Result Answered Refusal) → IsErrAnd r (λ f. f ≡ failures.Memory) → Becomes session r expected
memory_becomes session (Ok response) expected gives = absurd gives
memory_becomes session (Err failure) expected gives = subst (λ f. FailsWith f expected) (sym gives) tt

-- an error of an event is the refusal of its request
pub event_becomes : (session : OpenSession) (r : Result Response Failure) (error : DbError) (refusal : Option DbError) (expected : Answered)
    → IsErrAnd r (λ f. f ≡ failure_of_event error) → IsRefusal error refusal → Becomes session r (unless_refused refusal expected)
event_becomes session (Ok response) error refusal expected gives is = absurd gives
event_becomes session (Err failure) error refusal expected gives is =
    subst (λ f. FailsWith f (unless_refused refusal expected)) (sym gives) (refused session error refusal expected is)

pub not_repairing : (phase : Phase) → is_repairing phase ≡ false → unless_repairing phase ≡ Some errors.NotRepairing
not_repairing phase idle = rw idle refl

pub is_under_way : (phase : Phase) → is_repairing phase ≡ true → unless_repairing phase ≡ None
is_under_way phase repairing = rw repairing refl

-- no repair is under way
pub idle_becomes : (session : OpenSession) (r : Result Response Failure) (error : DbError) (phase : Phase) (expected : Answered)
    → IsErrAnd r (λ f. f ≡ failure_of_event error) → error ≡ errors.NotRepairing → is_repairing phase ≡ false → Becomes session r (unless_refused (unless_repairing phase) expected)
idle_becomes session r error phase expected gives is idle =
    let so : IsRefusal error (unless_repairing phase) = subst (λ e. IsRefusal e (unless_repairing phase)) (sym is) (not_repairing phase idle) in
    event_becomes session r error (unless_repairing phase) expected gives so

-- ---- room for the end

room-fact : (limit events left : ℕ) → nat_lt limit (events + left + 1) ≡ false → events + left + 1 ≤ limit
room-fact limit events left free = grind (arith, nat_tests)

pub can_end : (db : Database) → is_repairing (state_of db).phase ≡ true → has_no_room_to_end db.limits (state_of db) ≡ false → CanEnd db
can_end db repairing room =
    let S = state_of db in
    let known : nat_lt db.limits.events (events_at_end S) ≡ false = ap (λ b. b && nat_lt db.limits.events (events_at_end S)) (sym repairing) ∙ room in
    record { repairing = repairing; room = room-fact db.limits.events S.events (slots_left S) known }

zero-test : (n : ℕ) → 0 < n → (n == 0) ≡ false
zero-test n some = grind (arith, nat_tests, some)

pub step_is_accepted : (db : Database) → CanEnd db → 0 < slots_left (state_of db) → refusal_of db events.Step ≡ None
step_is_accepted db is some =
    let entries = full_at-below (state_of db).events db.limits.events (omega (arith, is.room)) in
    rw (is.repairing, zero-test (slots_left (state_of db)) some, entries) refl

pub switch_is_accepted : (db : Database) → CanEnd db → slots_left (state_of db) ≡ 0 → refusal_of db events.Switch ≡ None
switch_is_accepted db is none =
    let entries = full_at-below (state_of db).events db.limits.events (omega (arith, is.room)) in
    rw (is.repairing, none, entries) refl

pub abort_is_accepted : (db : Database) → CanEnd db → refusal_of db events.Abort ≡ None
abort_is_accepted db is =
    let entries = full_at-below (state_of db).events db.limits.events (omega (arith, is.room)) in
    rw (is.repairing, entries) refl

pub can_end-step : (db : Database) (worker : ℕ) → CanEnd db → 0 < slots_left (state_of db) → CanEnd (with_event db worker events.Step)
can_end-step db worker is some =
    let step = is_after_step db worker is.repairing some in
    record { repairing = step.repairing; room = omega (arith, is.room, step.events, step.left) }

pub left-step : (db : Database) (worker : ℕ) → CanEnd db → 0 < slots_left (state_of db) → slots_left (state_of (with_event db worker events.Step)) + 1 ≡ slots_left (state_of db)
left-step db worker is some = (is_after_step db worker is.repairing some).left

-- ---- steps

pub with_steps-none : (db : Database) (worker : ℕ) → with_steps db worker 0 ≡ db
with_steps-none db worker = ap (λ h. record db { history = h }) (append-nil db.history)

-- one before others
pub with_steps-first : (db : Database) (worker count : ℕ) → with_steps (with_event db worker events.Step) worker count ≡ with_steps db worker (suc count)
with_steps-first db worker count =
    ap (λ h. record db { history = h }) (append_assoc db.history (entry_by worker events.Step ∷ []) (replicate count (entry_by worker events.Step)))

-- together as many are made as are asked for, since none is refused
pub with_steps-made : (db next : Database) (worker count made : ℕ) → CanEnd db → count ≤ slots_left (state_of db)
    → made ≡ steps_made worker db count → next ≡ with_steps_by worker db made → next ≡ with_steps db worker count
with_steps-made db next worker count made is few made_is next_is =
    let known = steps-made worker db count (omega (arith, is.room)) in
    let all : made ≡ count = omega (arith, made_is, known, few, is.room) in
    next_is ∙ steps-entries worker db made ∙ ap (with_steps db worker) all

-- ---- events that a session doesn't refuse

pub room-test : (limit : ℕ) (n : ℕ) → n ≤ limit → nat_lt limit n ≡ false
room-test limit n few = grind (arith, nat_tests, few)

pub room-can_end : (db : Database) → CanEnd db → has_no_room_to_end db.limits (state_of db) ≡ false
room-can_end db is =
    ap (λ b. b && nat_lt db.limits.events (events_at_end (state_of db))) is.repairing
    ∙ room-test db.limits.events (events_at_end (state_of db)) is.room

-- an event that the database accepts, and that leaves room
pub accepted_in_session : (db : Database) (event : Event) → refusal_of db event ≡ None → has_no_room_to_end db.limits (next_state db.limits (state_of db) event) ≡ false
    → refusal_in_session db event ≡ None
accepted_in_session db event none room = rw (none, room) refl

pub switch_in_session : (db : Database) → CanEnd db → slots_left (state_of db) ≡ 0 → refusal_in_session db events.Switch ≡ None
switch_in_session db is none = accepted_in_session db events.Switch (switch_is_accepted db is none) refl

pub abort_in_session : (db : Database) → CanEnd db → refusal_in_session db events.Abort ≡ None
abort_in_session db is = accepted_in_session db events.Abort (abort_is_accepted db is) refl
