-- What a repair would come to: why it can't be tried, and what its beginning and its steps leave.
use Rattle.std.proofs.Common.{◌≡◌, ℕ, zero, suc, ◌+◌, ◌-◌, ◌<◌, ◌≤◌, min, Bool, true, false, ◌==◌, List, [], ◌∷◌, is_some, Option, None, Some, if◌then◌else◌, refl, sym, ap, subst, ◌∙◌, arith}
use Rattle.std.proofs.lemmas.Bool.Decides.{nat_tests}
use Rattle.std.specs.Option.{option_or}
use Rattle.tt_values.specs.Tables.{Tables}
use Rattle.tt_repair_laws.specs.declared.edit.Edit.{Edit}
use Rattle.tt_generations.specs.TwoGenerations.{Repairing, is_repairing, left_of, phase_after_step}
use Rattle.tt_db.specs.declared.limits.Limits.{Limits}
use Rattle.tt_db.specs.declared.errors.DbError.{DbError}
use Rattle.tt_db.specs.declared.errors.DbError.TheVariants as errors
use Rattle.tt_db.specs.declared.event.Event.TheVariants as events
use Rattle.tt_db.specs.State.{State, slots_left, full_at, refusal}
use Rattle.tt_db.specs.Database.{Database, state_of, now_in, current_slots, with_entry, refusal_of, HasSlots}
use Rattle.tt_db.specs.Steps.{step_by, with_steps_by, steps_made, refusal_behind}
use Rattle.tt_db.specs.Trials.{begun_trial, slots_to_try, tried_database, refusal_of_steps, tried_refusal}
use Rattle.tt_db.proofs.EntryLemmas.{after-push}
use Rattle.tt_db.proofs.RefusalLemmas.{has_room_for_entry}
use Rattle.tt_db.proofs.StepsLemmas.{steps-entries, steps-first, steps-current, steps-made}

-- ---- what the beginning leaves

pub record IsBegun (db : Database) (edits : List Edit) (S : State) : Type 0 where
  pub phase : S.phase ≡ Repairing edits 0
  pub slots : S.slots ≡ current_slots db
  pub events : S.events ≡ (state_of db).events + 1

is_begun : (db : Database) (edits : List Edit) → IsBegun db edits (state_of (begun_trial db edits))
is_begun db edits =
    let next = after-push db.limits db.history (record { worker = 0; event = events.Begin edits }) in
    record {
      phase = ap (λ (S : State). S.phase) next;
      slots = ap (λ (S : State). S.slots) next;
      events = ap (λ (S : State). S.events) next;
    }

-- all slots are to be done
slots_to_try-is : (db : Database) (edits : List Edit) → slots_to_try db edits ≡ now_in db
slots_to_try-is db edits =
    let begun = is_begun db edits in
    let all : left_of (Repairing edits 0) (current_slots db) ≡ now_in db = omega arith in
    (λ i. left_of (begun.phase i) (begun.slots i)) ∙ all

-- ---- what the steps leave

steps-phase : (worker : ℕ) (db : Database) (edits : List Edit) (n : ℕ) → (state_of db).phase ≡ Repairing edits 0 → (state_of (with_steps_by worker db n)).phase ≡ Repairing edits n
steps-phase worker db edits zero begun = begun
steps-phase worker db edits (suc n) begun =
    let before = with_steps_by worker db n in
    ap (λ (S : State). S.phase) (after-push before.limits before.history (step_by worker)) ∙ ap phase_after_step (steps-phase worker db edits n begun)

steps-slots : (worker : ℕ) (db : Database) (n : ℕ) → current_slots (with_steps_by worker db n) ≡ current_slots db
steps-slots worker db n = (steps-current worker db n (with_steps_by worker db n) refl).slots

steps-events : (worker : ℕ) (db : Database) (n : ℕ) → (state_of (with_steps_by worker db n)).events ≡ (state_of db).events + n
steps-events worker db zero = omega arith
steps-events worker db (suc n) =
    let before = with_steps_by worker db n in
    let one_more : (state_of (with_steps_by worker db (suc n))).events ≡ (state_of before).events + 1 = ap (λ (S : State). S.events) (after-push before.limits before.history (step_by worker)) in
    omega (arith, one_more, steps-events worker db n)

-- the repair has done all slots, and they are those of before
pub tried-done : (db : Database) (edits : List Edit) (trial : Database) → trial ≡ tried_database db edits → (state_of trial).phase ≡ Repairing edits (now_in db)
tried-done db edits trial is =
    ap (λ (d : Database). (state_of d).phase) is
    ∙ steps-phase 0 (begun_trial db edits) edits (slots_to_try db edits) (is_begun db edits).phase
    ∙ ap (Repairing edits) (slots_to_try-is db edits)

pub tried-current : (db : Database) (edits : List Edit) (trial : Database) → trial ≡ tried_database db edits → HasSlots trial (current_slots db)
tried-current db edits trial is =
    subst (HasSlots trial) (is_begun db edits).slots (steps-current 0 (begun_trial db edits) (slots_to_try db edits) trial is)

-- ---- where it isn't refused

suc-test : (m n : ℕ) → (suc m == suc n) ≡ (m == n)
suc-test m n = by (suc m == suc n) (m == n) refl refl
  where
    by : (a b : Bool) → (suc m == suc n) ≡ a → (m == n) ≡ b → a ≡ b
    by true true p q = refl
    by false false p q = refl
    by true false p q =
        let same : m ≡ n = grind (arith, nat_tests) in
        let test : (m == n) ≡ true = grind (arith, nat_tests, same) in
        sym test ∙ q
    by false true p q =
        let same : m ≡ n = grind (arith, nat_tests) in
        let test : (suc m == suc n) ≡ true = grind (arith, nat_tests, same) in
        sym p ∙ test

-- where no step is refused, all of them are made
all_made : (worker : ℕ) (db : Database) (most : ℕ) → refusal_of_steps worker db most ≡ None → steps_made worker db most ≡ most
all_made worker db zero none = refl
all_made worker db (suc most) none = by (all_made worker next most) (refusal_of db events.Step) refl none
  where
    next : Database
    next = with_entry db (step_by worker)

    rest : ℕ
    rest = steps_made worker next most

    refusal_after : ℕ → Option DbError
    refusal_after made = refusal_behind (suc most) made (with_steps_by worker db made)

    by : (refusal_of_steps worker next most ≡ None → rest ≡ most) → (r : Option DbError) → refusal_of db events.Step ≡ r
        → refusal_after (if is_some r then 0 else suc rest) ≡ None → (if is_some r then 0 else suc rest) ≡ suc most
    by others (Some e) is none =
        let test : (0 == suc most) ≡ false = grind (arith, nat_tests) in
        let kept : refusal_of db events.Step ≡ None = ap (λ b. if b then None else refusal_of db events.Step) (sym test) ∙ none in
        let clash : Some e ≡ None = sym is ∙ kept in
        cc
    by others None is none = ap suc (others
        (ap (λ b. if b then None else refusal_of (with_steps_by worker next rest) events.Step) (sym (suc-test rest most))
        ∙ ap (λ (d : Database). if suc rest == suc most then None else refusal_of d events.Step) (steps-first worker db rest)
        ∙ none))

record AreNone (a b : Option DbError) : Type 0 where
  first : a ≡ None
  second : b ≡ None

are_none : (a b : Option DbError) → option_or a b ≡ None → AreNone a b
are_none None b h = record { first = refl; second = h }
are_none (Some e) b h = cc

accepted : (db : Database) (edits : List Edit) → tried_refusal db edits ≡ None → AreNone (refusal_of db (events.Begin edits)) (refusal_of_steps 0 (begun_trial db edits) (slots_to_try db edits))
accepted db edits none = are_none (refusal_of db (events.Begin edits)) (refusal_of_steps 0 (begun_trial db edits) (slots_to_try db edits)) none

pub begin_accepted : (db : Database) (edits : List Edit) → tried_refusal db edits ≡ None → refusal_of db (events.Begin edits) ≡ None
begin_accepted db edits none = (accepted db edits none).first

pub tried-steps : (db begun trial : Database) (edits : List Edit) (made : ℕ) → tried_refusal db edits ≡ None → begun ≡ begun_trial db edits
    → trial ≡ with_steps_by 0 begun made → made ≡ steps_made 0 begun (slots_left (state_of begun)) → trial ≡ tried_database db edits
tried-steps db begun trial edits made none begun_is trial_is made_is =
    let start = begun_trial db edits in
    let count : made ≡ slots_to_try db edits =
    made_is ∙ ap (λ (d : Database). steps_made 0 d (slots_left (state_of d))) begun_is ∙ all_made 0 start (slots_to_try db edits) (accepted db edits none).second in
    trial_is ∙ (λ i. with_steps_by 0 (begun_is i) (count i))

-- ---- by the room that the history has

step-full : (tables : Tables) (limits : Limits) (S : State) → is_repairing S.phase ≡ true → (slots_left S == 0) ≡ false → (S.events == limits.events) ≡ true
    → refusal tables limits S events.Step ≡ Some (errors.Full limits.events)
step-full tables limits S repairing some full = rw (repairing, some, full) refl

-- why no repair with these edits can be tried, where its beginning isn't refused
refusal-begun : (db : Database) (edits : List Edit) → refusal_of db (events.Begin edits) ≡ None → tried_refusal db edits ≡ refusal_of_steps 0 (begun_trial db edits) (slots_to_try db edits)
refusal-begun db edits none = ap (λ r. option_or r (refusal_of_steps 0 (begun_trial db edits) (slots_to_try db edits))) none

pub refused-begin : (db : Database) (edits : List Edit) (e : DbError) → refusal_of db (events.Begin edits) ≡ Some e → tried_refusal db edits ≡ Some e
refused-begin db edits e is = ap (λ r. option_or r (refusal_of_steps 0 (begun_trial db edits) (slots_to_try db edits))) is

-- how many steps are made
steps_to_try : (db : Database) (edits : List Edit) → (state_of db).events < db.limits.events
    → steps_made 0 (begun_trial db edits) (slots_to_try db edits) ≡ min (slots_to_try db edits) (db.limits.events - ((state_of db).events + 1))
steps_to_try db edits below =
    let begun = is_begun db edits in
    let within : (state_of (begun_trial db edits)).events ≤ db.limits.events = omega (arith, begun.events, below) in
    omega (arith, steps-made 0 (begun_trial db edits) (slots_to_try db edits) within, begun.events)

-- with an entry for the beginning and for each slot, none is refused
pub has_room : (db : Database) (edits : List Edit) → refusal_of db (events.Begin edits) ≡ None → (state_of db).events ≤ db.limits.events
    → (state_of db).events + now_in db < db.limits.events → tried_refusal db edits ≡ None
has_room db edits none within room =
    let start = begun_trial db edits in
    let most = slots_to_try db edits in
    let below = has_room_for_entry db.catalog db.limits (state_of db) (events.Begin edits) none within in
    let made : steps_made 0 start most ≡ most = omega (arith, steps_to_try db edits below, slots_to_try-is db edits, room) in
    let test : (steps_made 0 start most == most) ≡ true = grind (arith, nat_tests, made) in
    refusal-begun db edits none ∙ ap (λ b. if b then None else refusal_of (with_steps_by 0 start (steps_made 0 start most)) events.Step) test

-- otherwise the step for which there is none is refused
pub has_no_room : (db : Database) (edits : List Edit) → refusal_of db (events.Begin edits) ≡ None → (state_of db).events ≤ db.limits.events
    → db.limits.events ≤ (state_of db).events + now_in db → tried_refusal db edits ≡ Some (errors.Full db.limits.events)
has_no_room db edits none within full =
    let start = begun_trial db edits in
    let most = slots_to_try db edits in
    let made = steps_made 0 start most in
    let left_at = with_steps_by 0 start made in
    let below = has_room_for_entry db.catalog db.limits (state_of db) (events.Begin edits) none within in
    let begun = is_begun db edits in
    let count = steps_to_try db edits below in
    let fewer : made < most = omega (arith, count, slots_to_try-is db edits, full, below) in
    let test : (made == most) ≡ false = grind (arith, nat_tests, fewer) in
    let limits : left_at.limits ≡ db.limits = ap (λ (d : Database). d.limits) (steps-entries 0 start made) in
    let phase = steps-phase 0 start edits made begun.phase in
    let left : slots_left (state_of left_at) ≡ now_in db - made = λ i. left_of (phase i) ((steps-slots 0 start made ∙ begun.slots) i) in
    let some : (slots_left (state_of left_at) == 0) ≡ false = grind (arith, nat_tests, left, fewer, slots_to_try-is db edits) in
    let counted : (state_of left_at).events ≡ db.limits.events = omega (arith, steps-events 0 start made, begun.events, count, slots_to_try-is db edits, full, below) in
    let at_limit : ((state_of left_at).events == left_at.limits.events) ≡ true = rw limits (grind (arith, nat_tests, counted)) in
    refusal-begun db edits none
    ∙ ap (λ b. if b then None else refusal_of left_at events.Step) test
    ∙ step-full left_at.catalog left_at.limits (state_of left_at) (ap is_repairing phase) some at_limit
    ∙ ap (λ (l : Limits). Some (errors.Full l.events)) limits
