-- Room for the end of a repair.
use Rattle.std.proofs.Common.{◌≡◌, ℕ, suc, ◌+◌, ◌-◌, ◌≤◌, true, ◌&&◌, nat_lt, nat_le, List, [], ◌∷◌, ◌++◌, length, length-append, fold, Option, None, Some, refl, sym, ap, ◌∙◌, arith}
use Rattle.std.proofs.lemmas.Bool.Decides.{nat_tests}
use Rattle.std.specs.Option.{option_or, unwrap_or}
use Rattle.tt_values.specs.declared.action.Action.{Action}
use Rattle.tt_repair_laws.specs.declared.edit.Edit.{Edit}
use Rattle.tt_generations.specs.TwoGenerations.{Phase, Idle, Repairing, is_repairing, left_of, phase_after_step, IsWithin}
use Rattle.tt_db.specs.declared.limits.Limits.{Limits}
use Rattle.tt_db.specs.declared.event.Entry.{Entry}
use Rattle.tt_db.specs.declared.event.Event.{Event}
use Rattle.tt_db.specs.declared.event.Event.TheVariants as events
use Rattle.tt_db.specs.declared.errors.DbError.{DbError}
use Rattle.tt_db.specs.declared.errors.DbError.TheVariants as errors
use Rattle.tt_db.specs.Errors.{refusal_of_error}
use Rattle.tt_db.specs.State.{State, start, after, next_state, now_of, slots_left}
use Rattle.tt_db.specs.Database.{Database, state_of, refusal_of}
use Rattle.tt_commands.specs.Failures.{IsRefusal}
use Rattle.tt_commands.specs.Room.{has_no_room_to_end, refusal_in_session}

events-from : (limits : Limits) (S : State) (history : List Entry) → (fold (λ T e. next_state limits T e.event) S history).events ≡ S.events + length history
events-from limits S [] = omega arith
events-from limits S (e ∷ history) = let rest = events-from limits (next_state limits S e.event) history in omega (arith, rest)

-- a state has as many events as its history has entries
pub events-after : (limits : Limits) (history : List Entry) → (after limits history).events ≡ length history
events-after limits history = let all = events-from limits start history in omega (arith, all)

-- ---- an event that leaves no room for the end of a repair

write-test : (limit events n slots : ℕ) → n ≤ slots → nat_le (limit - events - 1 - 1) (slots - n) ≡ nat_lt limit (events + 1 + (slots + 1 - n) + 1)
write-test limit events n slots few = grind (arith, nat_tests, few)

begin-test : (limit events slots : ℕ) → nat_le (limit - events - 1) slots ≡ nat_lt limit (events + 1 + (slots - 0) + 1)
begin-test limit events slots = grind (arith, nat_tests)

step-test : (limit events n slots : ℕ) → nat_le (limit - events - 1) (slots - n - 1) ≡ nat_lt limit (events + 1 + (slots - suc n) + 1)
step-test limit events n slots = grind (arith, nat_tests)

write-room : (limits : Limits) (S : State) (phase : Phase) (action : Action) → IsWithin phase S.slots
    → (is_repairing phase && nat_le (limits.events - S.events - 1 - 1) (left_of phase S.slots))
    ≡ (is_repairing phase && nat_lt limits.events (S.events + 1 + left_of phase (S.slots ++ Some action ∷ []) + 1))
write-room limits S Idle action within = refl
write-room limits S (Repairing edits n) action within =
    write-test limits.events S.events n (length S.slots) within
    ∙ ap (λ l. nat_lt limits.events (S.events + 1 + (l - n) + 1)) (sym (length-append S.slots (Some action ∷ [])))

step-room : (limits : Limits) (S : State) (phase : Phase)
    → (is_repairing phase && nat_le (limits.events - S.events - 1) (left_of phase S.slots - 1))
    ≡ (is_repairing (phase_after_step phase) && nat_lt limits.events (S.events + 1 + left_of (phase_after_step phase) S.slots + 1))
step-room limits S Idle = refl
step-room limits S (Repairing edits n) = step-test limits.events S.events n (length S.slots)

pub no_room-write : (db : Database) (action : Action) → IsWithin (state_of db).phase (state_of db).slots
    → (is_repairing (state_of db).phase && nat_le (db.limits.events - length db.history - 1 - 1) (slots_left (state_of db)))
    ≡ has_no_room_to_end db.limits (next_state db.limits (state_of db) (events.Write action))
no_room-write db action within =
    let S = state_of db in
    ap (λ n. is_repairing S.phase && nat_le (db.limits.events - n - 1 - 1) (slots_left S)) (sym (events-after db.limits db.history))
    ∙ write-room db.limits S S.phase action within

pub no_room-begin : (db : Database) (edits : List Edit)
    → nat_le (db.limits.events - length db.history - 1) (now_of (state_of db)) ≡ has_no_room_to_end db.limits (next_state db.limits (state_of db) (events.Begin edits))
no_room-begin db edits =
    let S = state_of db in
    ap (λ n. nat_le (db.limits.events - n - 1) (now_of S)) (sym (events-after db.limits db.history)) ∙ begin-test db.limits.events S.events (now_of S)

pub no_room-step : (db : Database)
    → (is_repairing (state_of db).phase && nat_le (db.limits.events - length db.history - 1) (slots_left (state_of db) - 1))
    ≡ has_no_room_to_end db.limits (next_state db.limits (state_of db) events.Step)
no_room-step db =
    let S = state_of db in
    ap (λ n. is_repairing S.phase && nat_le (db.limits.events - n - 1) (slots_left S - 1)) (sym (events-after db.limits db.history)) ∙ step-room db.limits S S.phase

-- why a session refuses an event that leaves no room
pub without_room : (db : Database) (event : Event) (refusal : Option DbError) (error : DbError) → refusal ≡ refusal_of db event
    → has_no_room_to_end db.limits (next_state db.limits (state_of db) event) ≡ true → unwrap_or refusal (errors.Full db.limits.events) ≡ error
    → refusal_in_session db event ≡ Some error
without_room db event None error is no_room same = rw (sym is, no_room) (ap Some same)
without_room db event (Some first) error is no_room same = rw (sym is) (ap Some same)

-- why the database refuses an event is why a session does
pub refused_in_session : (error : DbError) (refusal full : Option DbError) → refusal ≡ refusal_of_error error → IsRefusal error (option_or refusal full)
refused_in_session (errors.Statement fault) refusal full is = rw is refl
refused_in_session errors.Repairing refusal full is = rw is refl
refused_in_session errors.NotRepairing refusal full is = rw is refl
refused_in_session (errors.NotCaughtUp left) refusal full is = rw is refl
refused_in_session errors.NothingLeft refusal full is = rw is refl
refused_in_session (errors.NoSlot t) refusal full is = rw is refl
refused_in_session (errors.EditTwice t) refusal full is = rw is refl
refused_in_session errors.TooManyEdits refusal full is = rw is refl
refused_in_session (errors.Full limit) refusal full is = rw is refl
refused_in_session errors.Memory refusal full is = tt
