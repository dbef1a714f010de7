-- A repair that is under way: its steps, the calls beside them, and its switch.
use Rattle.std.proofs.Common.{◌≡◌, ℕ, zero, suc, ◌+◌, ◌-◌, ◌<◌, ◌≤◌, ◌==◌, Bool, true, false, if◌then◌else◌, List, [], ◌∷◌, ◌++◌, length, replicate, Option, Some, None, refl, sym, ap, subst, ◌∙◌, arith, append-nil, append_assoc, length-append}
use Rattle.std.proofs.lemmas.Bool.Decides.{nat_tests}
use Rattle.std.proofs.lemmas.List.{replicate-append-replicate}
use Rattle.tt_values.specs.declared.action.Action.{Action}
use Rattle.tt_values.specs.RowWrites.{Slots}
use Rattle.tt_values.specs.Check.{action_fault}
use Rattle.tt_repair_laws.specs.declared.edit.Edit.{Edit}
use Rattle.tt_generations.specs.TwoGenerations.{Phase, Idle, Repairing, is_repairing, left_of, phase_after_step}
use Rattle.tt_db.specs.declared.event.Entry.{Entry}
use Rattle.tt_db.specs.declared.event.Event.TheVariants as events
use Rattle.tt_db.specs.declared.errors.DbError.TheVariants as errors
use Rattle.tt_db.specs.declared.limits.Limits.{Limits}
use Rattle.tt_db.specs.State.{State, after, next_state, now_of, slots_left, full_at}
use Rattle.tt_db.specs.Database.{Database, state_of, with_entry, refusal_of}
use Rattle.tt_records.specs.declared.record.Record.{Record}
use Rattle.tt_document.specs.declared.document.Call.{Call}
use Rattle.tt_document.specs.declared.document.Ask.{Ask}
use Rattle.tt_document.specs.declared.document.Ask.TheVariants as asks
use Rattle.tt_workload.specs.Records.{record_in, kept}
use Rattle.tt_workload.specs.History.{with_entries, entries_of_ask, entries_of, repair_entry, steps, with_batch, with_meanwhile, records_of, records_meanwhile}
use Rattle.tt_workload.specs.Room.{HasRoom, IsBefore, IsUnderWay}
use Rattle.tt_db.specs.Steps.{with_steps_by, steps_made}
use Rattle.tt_db.proofs.EntryLemmas.{after-push, full_at-below, is_after_step}
use Rattle.tt_db.proofs.StepsLemmas.{steps-entries, steps-made}

-- where there is room, an action that the tables accept isn't refused
pub is_accepted : (db : Database) (action : Action) → action_fault db.catalog action.writes ≡ None → HasRoom db → refusal_of db (events.Write action) ≡ None
is_accepted db action accepted room =
    let slots = full_at-below (now_of (state_of db)) db.limits.slots room.slots in
    let entries = full_at-below (state_of db).events db.limits.events room.events in
    rw (accepted, slots, entries) refl

-- ---- calls

-- what a call adds: a slot and an entry, or neither
record IsAfterAsk (S T : State) : Type 0 where
  phase : T.phase ≡ S.phase
  slots : now_of T ≤ now_of S + 1
  events : T.events + now_of S ≡ S.events + now_of T
  left : slots_left T ≤ slots_left S + (now_of T - now_of S)
  more : now_of S ≤ now_of T

left-push : (p : Phase) (W : Slots) (action : Action) → left_of p (W ++ Some action ∷ []) ≤ left_of p W + 1
left-push Idle W action = omega arith
left-push (Repairing edits n) W action = omega (arith, length-append W (Some action ∷ []))

is_after_action : (limits : Limits) (S : State) (action : Action) → IsAfterAsk S (next_state limits S (events.Write action))
is_after_action limits S action =
    let longer = length-append S.slots (Some action ∷ []) in
    record {
      phase = refl;
      slots = omega (arith, longer);
      events = omega (arith, longer);
      left = omega (arith, longer, left-push S.phase S.slots action);
      more = omega (arith, longer);
    }

is_after_none : (S : State) → IsAfterAsk S S
is_after_none S = record { phase = refl; slots = omega arith; events = omega arith; left = omega arith; more = omega arith }

is_after_ask : (db : Database) (worker : ℕ) (ask : Ask) → IsAfterAsk (state_of db) (state_of (with_entries db (entries_of_ask worker ask)))
is_after_ask db worker (asks.Write action) = subst (IsAfterAsk (state_of db)) (sym (after-push db.limits db.history _)) (is_after_action db.limits (state_of db) action)
is_after_ask db worker (asks.Read q at) = subst (IsAfterAsk (state_of db)) (sym (ap (after db.limits) (append-nil db.history))) (is_after_none (state_of db))
is_after_ask db worker (asks.Preview q) = subst (IsAfterAsk (state_of db)) (sym (ap (after db.limits) (append-nil db.history))) (is_after_none (state_of db))

-- ---- before the repair

pub room-before : (calls : ℕ) (db : Database) → IsBefore calls db → calls < 1000000 → HasRoom db
room-before calls db is few =
    let slots = ap (λ (l : Limits). l.slots) is.limits in
    let entries = ap (λ (l : Limits). l.events) is.limits in
    record { slots = omega (arith, slots, is.slots, few); events = omega (arith, entries, is.slots, is.events, few) }

pub before-call : (calls : ℕ) (db : Database) (worker : ℕ) (ask : Ask) → IsBefore calls db → IsBefore (calls + 1) (with_entries db (entries_of_ask worker ask))
before-call calls db worker ask is =
    let call = is_after_ask db worker ask in
    record {
      limits = is.limits;
      idle = ap is_repairing call.phase ∙ is.idle;
      slots = omega (arith, is.slots, call.slots);
      events = omega (arith, is.events, call.events);
    }

-- ---- during the repair

pub room-under_way : (calls : ℕ) (db : Database) → IsUnderWay calls db → calls < 1000000 → HasRoom db
room-under_way calls db is few =
    let slots = ap (λ (l : Limits). l.slots) is.limits in
    let entries = ap (λ (l : Limits). l.events) is.limits in
    record { slots = omega (arith, slots, is.slots, few); events = omega (arith, entries, is.slots, is.events, few) }

pub under_way-call : (calls : ℕ) (db : Database) (worker : ℕ) (ask : Ask) → IsUnderWay calls db → IsUnderWay (calls + 1) (with_entries db (entries_of_ask worker ask))
under_way-call calls db worker ask is =
    let call = is_after_ask db worker ask in
    record {
      limits = is.limits;
      repairing = ap is_repairing call.phase ∙ is.repairing;
      slots = omega (arith, is.slots, call.slots);
      events = omega (arith, is.events, call.events, call.left, call.more);
    }

-- the beginning of the repair
pub under_way-begun : (calls : ℕ) (db : Database) (worker : ℕ) (edits : List Edit) → IsBefore calls db → IsUnderWay calls (with_entry db (repair_entry worker (events.Begin edits)))
under_way-begun calls db worker edits is =
    let next = after-push db.limits db.history (repair_entry worker (events.Begin edits)) in
    record {
      limits = is.limits;
      repairing = ap (λ (S : State). is_repairing S.phase) next;
      slots = subst (λ (S : State). now_of S ≤ calls) (sym next) is.slots;
      events = subst (λ (S : State). S.events + slots_left S ≤ now_of S + now_of S + 1) (sym next) (omega (arith, is.events));
    }

-- ---- steps

pub under_way-step : (calls : ℕ) (db : Database) (worker : ℕ) → 0 < slots_left (state_of db) → IsUnderWay calls db → IsUnderWay calls (with_entry db (repair_entry worker events.Step))
under_way-step calls db worker some is =
    let step = is_after_step db worker is.repairing some in
    record {
      limits = is.limits;
      repairing = step.repairing;
      slots = omega (arith, is.slots, step.slots);
      events = omega (arith, is.events, step.slots, step.events, step.left);
    }

-- what steps leave
pub record AreStepped (calls : ℕ) (db last : Database) (count : ℕ) : Type 0 where
  pub under_way : IsUnderWay calls last
  pub left : slots_left (state_of last) + count ≡ slots_left (state_of db)

are_stepped_by : (calls : ℕ) (db : Database) (worker count : ℕ) → IsUnderWay calls db → count ≤ slots_left (state_of db) → AreStepped calls db (with_steps_by worker db count) count
are_stepped_by calls db worker zero is few = record { under_way = is; left = omega arith }
are_stepped_by calls db worker (suc count) is few =
    let before = are_stepped_by calls db worker count is (omega (arith, few)) in
    let last = with_steps_by worker db count in
    let some : 0 < slots_left (state_of last) = omega (arith, before.left, few) in
    record {
      under_way = under_way-step calls last worker some before.under_way;
      left = omega (arith, before.left, (is_after_step last worker before.under_way.repairing some).left);
    }

pub are_stepped : (calls : ℕ) (db : Database) (worker count : ℕ) → IsUnderWay calls db → count ≤ slots_left (state_of db) → AreStepped calls db (with_entries db (steps worker count)) count
are_stepped calls db worker count is few =
    subst (λ (d : Database). AreStepped calls db d count) (steps-entries worker db count) (are_stepped_by calls db worker count is few)

-- none of them is refused, so that all are made
pub all_are_made : (calls : ℕ) (db next : Database) (worker count made : ℕ) → IsUnderWay calls db → calls ≤ 200000 → count ≤ slots_left (state_of db)
    → made ≡ steps_made worker db count → next ≡ with_steps_by worker db made → next ≡ with_entries db (steps worker count)
all_are_made calls db next worker count made is few left made_is next_is =
    let entries = ap (λ (l : Limits). l.events) is.limits in
    let known = steps-made worker db count (omega (arith, entries, is.slots, is.events, few)) in
    let all : made ≡ count = omega (arith, made_is, known, left, entries, is.slots, is.events, few) in
    next_is ∙ steps-entries worker db made ∙ ap (λ n. with_entries db (steps worker n)) all

-- the switch isn't refused where none is left
pub switch_is_accepted : (calls : ℕ) (db : Database) → IsUnderWay calls db → calls < 1000000 → slots_left (state_of db) ≡ 0 → refusal_of db events.Switch ≡ None
switch_is_accepted calls db is few none =
    let room = room-under_way calls db is few in
    let entries = full_at-below (state_of db).events db.limits.events room.events in
    rw (is.repairing, none, entries) refl

-- giving the repair up isn't refused
pub abort_is_accepted : (calls : ℕ) (db : Database) → IsUnderWay calls db → calls < 1000000 → refusal_of db events.Abort ≡ None
abort_is_accepted calls db is few =
    let room = room-under_way calls db is few in
    let entries = full_at-below (state_of db).events db.limits.events room.events in
    rw (is.repairing, entries) refl

-- ---- calls beside the steps

-- the record of the next call, and those of the calls that are left
pub records_meanwhile-next : (worker batch number : ℕ) (db before next : Database) (call : Call) (calls rest : List Call)
    → calls ≡ call ∷ rest → before ≡ with_batch worker batch db → next ≡ with_entries before (entries_of call)
    → records_meanwhile worker batch number db calls ≡ record_in number (state_of before) call ∷ records_meanwhile worker batch (number + 1) next rest
records_meanwhile-next worker batch number db before next call calls rest is_next is_before is_after =
    ap (records_meanwhile worker batch number db) is_next
    ∙ ap (λ (d : Database). record_in number (state_of d) call ∷ records_meanwhile worker batch (number + 1) (with_entries d (entries_of call)) rest) (sym is_before)
    ∙ ap (λ (d : Database). record_in number (state_of before) call ∷ records_meanwhile worker batch (number + 1) d rest) (sym is_after)

-- the database after the next call, and after those that are left
pub with_meanwhile-next : (worker batch : ℕ) (db before next : Database) (call : Call) (calls rest : List Call)
    → calls ≡ call ∷ rest → before ≡ with_batch worker batch db → next ≡ with_entries before (entries_of call)
    → with_meanwhile worker batch db calls ≡ with_meanwhile worker batch next rest
with_meanwhile-next worker batch db before next call calls rest is_next is_before is_after =
    ap (with_meanwhile worker batch db) is_next
    ∙ ap (λ (d : Database). with_meanwhile worker batch (with_entries d (entries_of call)) rest) (sym is_before)
    ∙ ap (λ (d : Database). with_meanwhile worker batch d rest) (sym is_after)

-- a list so far, and the piece of the next item with those of the items that are left
pub next-piece : {X Y : Type 0} (f : List X → List Y) (piece : X → List Y) (out new all : List Y) (x : X) (left rest : List X)
    → ((x : X) (xs : List X) → f (x ∷ xs) ≡ piece x ++ f xs) → left ≡ x ∷ rest → new ≡ out ++ piece x → out ++ f left ≡ all → new ++ f rest ≡ all
next-piece f piece out new all x left rest step is_left is_new whole =
    ap (λ o. o ++ f rest) is_new ∙ append_assoc out (piece x) (f rest) ∙ ap (λ ys. out ++ ys) (sym (step x rest)) ∙ ap (λ xs. out ++ f xs) (sym is_left) ∙ whole

-- the same of calls before the repair
pub records_of-next : (number : ℕ) (db next : Database) (call : Call) (calls rest : List Call)
    → calls ≡ call ∷ rest → next ≡ with_entries db (entries_of call) → records_of number db calls ≡ record_in number (state_of db) call ∷ records_of (number + 1) next rest
records_of-next number db next call calls rest is_next is_after =
    ap (records_of number db) is_next ∙ ap (λ (d : Database). record_in number (state_of db) call ∷ records_of (number + 1) d rest) (sym is_after)

pub kept-next : (are_kept : Bool) (r : Record) (rs : List Record) → kept are_kept (r ∷ rs) ≡ kept are_kept (r ∷ []) ++ kept are_kept rs
kept-next true r rs = refl
kept-next false r rs = refl
