-- The slots that calls took, by their records: no two calls took the same one.
use Rattle.std.proofs.Common.{◌≡◌, ℕ, zero, suc, ◌+◌, ◌-◌, ◌<◌, ◌≤◌, nat_lt, Bool, true, false, if◌then◌else◌, List, [], ◌∷◌, ◌++◌, length, map, slice_get, Option, Some, None, refl, sym, ap, subst, ◌∙◌, arith, append-nil, append_assoc, length-append}
use Rattle.std.proofs.lemmas.List.Sums.{fold-append}
use Rattle.tt_values.specs.declared.statement.Select.{Select}
use Rattle.tt_generations.specs.TwoGenerations.{is_repairing}
use Rattle.tt_db.specs.declared.event.Entry.{Entry}
use Rattle.tt_db.specs.declared.limits.Limits.{Limits}
use Rattle.tt_db.specs.State.{State, start, after, next_state, now_of}
use Rattle.tt_db.specs.Database.{Database, state_of}
use Rattle.tt_db.proofs.EntryLemmas.{after-push}
use Rattle.tt_records.specs.declared.record.Record.{Record}
use Rattle.tt_document.specs.declared.document.Call.{Call}
use Rattle.tt_document.specs.declared.document.Ask.{Ask}
use Rattle.tt_document.specs.declared.document.Ask.TheVariants as asks
use Rattle.tt_document.specs.Repair.{is_action, is_action_of}
use Rattle.tt_workload.specs.Records.{answer_in, read_in, preview_in}
use Rattle.tt_workload.specs.History.{with_entries, entries_of_ask, entries_of, history_of, records_of, slot_in, slot_in_record}

-- the slots so far, with that of a call if it asks for an action
abbrev pub with_slot : ℕ → Bool → ℕ
with_slot taken true = suc taken
with_slot taken false = taken

-- the slot of a call, if it asks for an action
abbrev pub slot_if : ℕ → Bool → ℕ
slot_if taken true = suc taken
slot_if taken false = 0

-- the slot of the call at a position, where these ask for actions
abbrev pub slot_at : ℕ → List Bool → ℕ → ℕ
slot_at taken [] i = 0
slot_at taken (b ∷ bs) zero = slot_if taken b
slot_at taken (b ∷ bs) (suc i) = slot_at (with_slot taken b) bs i

-- whether the call at a position asks for an action
abbrev pub asks_at : List Bool → ℕ → Bool
asks_at [] i = false
asks_at (b ∷ bs) zero = b
asks_at (b ∷ bs) (suc i) = asks_at bs i

-- the slots after all of them
abbrev pub slots_of : ℕ → List Bool → ℕ
slots_of taken [] = taken
slots_of taken (b ∷ bs) = slots_of (with_slot taken b) bs

with_slot-least : (taken : ℕ) (b : Bool) → taken ≤ with_slot taken b
with_slot-least taken true = omega arith
with_slot-least taken false = omega arith

-- a slot is behind those that were taken before
pub slot_at-least : (taken : ℕ) (bs : List Bool) (i : ℕ) → asks_at bs i ≡ true → taken < slot_at taken bs i
slot_at-least taken [] i h = cc
slot_at-least taken (true ∷ bs) zero h = omega arith
slot_at-least taken (false ∷ bs) zero h = cc
slot_at-least taken (b ∷ bs) (suc i) h = omega (arith, with_slot-least taken b, slot_at-least (with_slot taken b) bs i h)

slots_of-least : (taken : ℕ) (bs : List Bool) → taken ≤ slots_of taken bs
slots_of-least taken [] = omega arith
slots_of-least taken (b ∷ bs) = omega (arith, with_slot-least taken b, slots_of-least (with_slot taken b) bs)

-- and it is one of all slots
pub slot_at-most : (taken : ℕ) (bs : List Bool) (i : ℕ) → slot_at taken bs i ≤ slots_of taken bs
slot_at-most taken [] i = omega arith
slot_at-most taken (true ∷ bs) zero = slots_of-least (suc taken) bs
slot_at-most taken (false ∷ bs) zero = omega arith
slot_at-most taken (b ∷ bs) (suc i) = slot_at-most (with_slot taken b) bs i

-- no two calls take the same one
pub slot_at-once : (taken : ℕ) (bs : List Bool) (i j : ℕ) → asks_at bs i ≡ true → asks_at bs j ≡ true → slot_at taken bs i ≡ slot_at taken bs j → i ≡ j
slot_at-once taken [] i j h k e = cc
slot_at-once taken (b ∷ bs) zero zero h k e = refl
slot_at-once taken (true ∷ bs) zero (suc j) h k e = absurd (omega (arith, e, slot_at-least (suc taken) bs j k))
slot_at-once taken (false ∷ bs) zero (suc j) h k e = cc
slot_at-once taken (true ∷ bs) (suc i) zero h k e = absurd (omega (arith, e, slot_at-least (suc taken) bs i h))
slot_at-once taken (false ∷ bs) (suc i) zero h k e = cc
slot_at-once taken (b ∷ bs) (suc i) (suc j) h k e = ap suc (slot_at-once (with_slot taken b) bs i j h k e)

-- ---- the records of calls

-- which calls ask for actions
abbrev pub asking : List Call → List Bool
asking calls = map (λ (c : Call). is_action c.ask) calls

read_in-slot : (S : State) (q : Select) (at : Option ℕ) → slot_in (read_in S q at) ≡ 0
read_in-slot S q None = refl
read_in-slot S q (Some time) = elim (nat_lt (now_of S) time) as (λ b. nat_lt (now_of S) time ≡ b → slot_in (read_in S q (Some time)) ≡ 0) [ true ↦ λ e. rw e refl | false ↦ λ e. rw e refl ] refl

answer_in-slot : (S : State) (ask : Ask) → slot_in (answer_in S ask) ≡ slot_if (now_of S) (is_action ask)
answer_in-slot S (asks.Write action) = omega arith
answer_in-slot S (asks.Read q at) = read_in-slot S q at
answer_in-slot S (asks.Preview q) = elim (is_repairing S.phase) as (λ b. is_repairing S.phase ≡ b → slot_in (preview_in S q) ≡ 0) [ true ↦ λ e. rw e refl | false ↦ λ e. rw e refl ] refl

after-ask : (db : Database) (worker : ℕ) (ask : Ask) → now_of (state_of (with_entries db (entries_of_ask worker ask))) ≡ with_slot (now_of (state_of db)) (is_action ask)
after-ask db worker (asks.Write action) = ap now_of (after-push db.limits db.history _) ∙ omega (arith, length-append (state_of db).slots (Some action ∷ []))
after-ask db worker (asks.Read q at) = ap (λ h. now_of (after db.limits h)) (append-nil db.history)
after-ask db worker (asks.Preview q) = ap (λ h. now_of (after db.limits h)) (append-nil db.history)

pub records_of-slot : (number : ℕ) (db : Database) (calls : List Call) (i : ℕ)
    → slot_in_record (slice_get (records_of number db calls) i) ≡ slot_at (now_of (state_of db)) (asking calls) i
records_of-slot number db [] i = refl
records_of-slot number db (call ∷ calls) zero = answer_in-slot (state_of db) call.ask
records_of-slot number db (call ∷ calls) (suc i) =
    records_of-slot (number + 1) (with_entries db (entries_of call)) calls i ∙ ap (λ n. slot_at n (asking calls) i) (after-ask db call.worker call.ask)

pub asks_at-action : (calls : List Call) (i : ℕ) → is_action_of (slice_get calls i) ≡ asks_at (asking calls) i
asks_at-action [] i = refl
asks_at-action (call ∷ calls) zero = refl
asks_at-action (call ∷ calls) (suc i) = asks_at-action calls i

-- the time after all of them
pub now-after_calls : (db : Database) (calls : List Call) → now_of (state_of (with_entries db (history_of calls))) ≡ slots_of (now_of (state_of db)) (asking calls)
now-after_calls db [] = ap (λ h. now_of (after db.limits h)) (append-nil db.history)
now-after_calls db (call ∷ calls) =
    ap (λ h. now_of (after db.limits h)) (sym (append_assoc db.history (entries_of call) (history_of calls)))
    ∙ now-after_calls (with_entries db (entries_of call)) calls
    ∙ ap (λ n. slots_of n (asking calls)) (after-ask db call.worker call.ask)
