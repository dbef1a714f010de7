-- What holds of an open session, whatever it is asked.
use Rattle.std.proofs.Common.{◌≡◌, ℕ, zero, suc, ◌+◌, ◌<◌, ◌≤◌, None, sym, subst, arith}
use Rattle.tt_db.specs.declared.event.Event.{Event}
use Rattle.tt_db.specs.declared.event.Event.TheVariants as events
use Rattle.tt_db.specs.State.{start, slots_left, IsLegal}
use Rattle.tt_db.specs.Database.{Database, state_of, refusal_of}
use Rattle.tt_db.specs.Steps.{with_steps_by, steps_made}
use Rattle.tt_db.proofs.EntryLemmas.{IsLegalFrom-push}
use Rattle.tt_commands.specs.Room.{CanEnd}
use Rattle.tt_commands.specs.Repairing.{entry_by, with_event, with_steps, with_all_steps}
use Rattle.tt_commands.specs.Invariants.{RepairsCanEnd}
use Rattle.tt_commands.proofs.StepLemmas.{can_end, step_is_accepted, switch_is_accepted, abort_is_accepted, can_end-step, left-step, with_steps-none, with_steps-first, with_steps-made}

-- ---- a database with further entries

-- the history of a database is legal
abbrev pub HasLegalHistory : Database → Type 0
HasLegalHistory db = IsLegal db.catalog db.limits db.history

pub legal-push : (db : Database) (worker : ℕ) (event : Event) → HasLegalHistory db → refusal_of db event ≡ None → HasLegalHistory (with_event db worker event)
legal-push db worker event legal none = IsLegalFrom-push db.catalog db.limits start db.history (entry_by worker event) legal none

-- after steps a repair can still be ended, and has fewer slots left
pub record IsStepped (db last : Database) (count : ℕ) : Type 0 where
  pub can_end : CanEnd last
  pub legal : HasLegalHistory last
  pub left : slots_left (state_of last) + count ≡ slots_left (state_of db)

pub is_stepped : (count : ℕ) (db : Database) (worker : ℕ) → CanEnd db → HasLegalHistory db → count ≤ slots_left (state_of db) → IsStepped db (with_steps db worker count) count
is_stepped zero db worker is legal few =
    let none : db ≡ with_steps db worker 0 = sym (with_steps-none db worker) in
    subst (λ (d : Database). IsStepped db d 0) none (record { can_end = is; legal = legal; left = omega arith })
is_stepped (suc count) db worker is legal few =
    let some : 0 < slots_left (state_of db) = omega (arith, few) in
    let next = with_event db worker events.Step in
    let fewer = left-step db worker is some in
    let rest = is_stepped count next worker (can_end-step db worker is some) (legal-push db worker events.Step legal (step_is_accepted db is some)) (omega (arith, few, fewer)) in
    let all : IsStepped db (with_steps next worker count) (suc count) = record { can_end = rest.can_end; legal = rest.legal; left = omega (arith, rest.left, fewer) } in
    subst (λ (d : Database). IsStepped db d (suc count)) (with_steps-first db worker count) all

-- steps that were made together, of which none was refused
pub record AreMade (db last : Database) (worker count : ℕ) : Type 0 where
  pub state : last ≡ with_steps db worker count
  pub stepped : IsStepped db last count

pub are_made : (db last : Database) (worker count made : ℕ) → CanEnd db → HasLegalHistory db → count ≤ slots_left (state_of db)
    → made ≡ steps_made worker db count → last ≡ with_steps_by worker db made → AreMade db last worker count
are_made db last worker count made is legal few made_is last_is =
    let all = with_steps-made db last worker count made is few made_is last_is in
    record { state = all; stepped = subst (λ (d : Database). IsStepped db d count) (sym all) (is_stepped count db worker is legal few) }

-- a repair that is under way can be finished, and can be given up
pub repairs_can_end : RepairsCanEnd
repairs_can_end db worker legal room repairing =
    let under_way = can_end db repairing room in
    let all = is_stepped (slots_left (state_of db)) db worker under_way legal (omega arith) in
    let none : slots_left (state_of (with_all_steps db worker)) ≡ 0 = omega (arith, all.left) in (
      legal-push (with_all_steps db worker) worker events.Switch all.legal (switch_is_accepted (with_all_steps db worker) all.can_end none),
      abort_is_accepted db under_way,
    )
