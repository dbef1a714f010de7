-- A history with one more entry: it leads to the next state, and stays legal where the entry isn't refused.
use Rattle.std.proofs.Common.{◌≡◌, ℕ, ◌+◌, ◌<◌, ◌==◌, Bool, true, false, if◌then◌else◌, List, [], ◌∷◌, ◌++◌, fold, Some, None, refl, sym, subst, ◌∙◌, arith}
use Rattle.std.proofs.lemmas.Bool.Decides.{nat_tests}
use Rattle.std.proofs.lemmas.List.Sums.{fold-append}
use Rattle.tt_values.specs.RowWrites.{Slots}
use Rattle.tt_values.specs.Tables.{Tables}
use Rattle.tt_generations.specs.TwoGenerations.{Phase, Idle, Repairing, is_repairing, left_of, phase_after_step}
use Rattle.tt_db.specs.declared.limits.Limits.{Limits}
use Rattle.tt_db.specs.declared.errors.DbError.TheVariants as errors
use Rattle.tt_db.specs.declared.event.Entry.{Entry}
use Rattle.tt_db.specs.declared.event.Event.TheVariants as events
use Rattle.tt_db.specs.State.{State, start, after, next_state, now_of, slots_left, full_at, refusal, IsLegalFrom}
use Rattle.tt_db.specs.Database.{Database, state_of, with_entry}

-- one more entry leads to the next state
pub after-push : (limits : Limits) (history : List Entry) (e : Entry) → after limits (history ++ e ∷ []) ≡ next_state limits (after limits history) e.event
after-push limits history e = fold-append (λ S e. next_state limits S e.event) start history (e ∷ [])

-- a history stays legal where the entry isn't refused
pub IsLegalFrom-push : (tables : Tables) (limits : Limits) (S : State) (history : List Entry) (e : Entry) → IsLegalFrom tables limits S history
    → refusal tables limits (fold (λ S e. next_state limits S e.event) S history) e.event ≡ None → IsLegalFrom tables limits S (history ++ e ∷ [])
IsLegalFrom-push tables limits S [] e legal none = (none, tt)
IsLegalFrom-push tables limits S (d ∷ history) e legal none = (legal.0, IsLegalFrom-push tables limits (next_state limits S d.event) history e legal.1 none)

-- a count below its limit isn't full
pub full_at-below : (count limit : ℕ) → count < limit → full_at count limit ≡ None
full_at-below count limit below = by (count == limit) refl
  where
    by : (b : Bool) → (count == limit) ≡ b → (if b then Some (errors.Full limit) else None) ≡ None
    by true e = let clash : count ≡ limit = grind (arith, nat_tests) in absurd (omega (arith, clash, below))
    by false e = refl

left-step : (p : Phase) (W : Slots) → is_repairing p ≡ true → 0 < left_of p W → left_of (phase_after_step p) W + 1 ≡ left_of p W
left-step Idle W repairing some = cc
left-step (Repairing edits n) W repairing some = omega (arith, some)

repairing-step : (p : Phase) → is_repairing (phase_after_step p) ≡ is_repairing p
repairing-step Idle = refl
repairing-step (Repairing edits n) = refl

-- what a step adds: an entry, for a slot that was left
pub record IsAfterStep (S T : State) : Type 0 where
  pub repairing : is_repairing T.phase ≡ true
  pub slots : now_of T ≡ now_of S
  pub events : T.events ≡ S.events + 1
  pub left : slots_left T + 1 ≡ slots_left S

pub is_after_step : (db : Database) (worker : ℕ) → is_repairing (state_of db).phase ≡ true → 0 < slots_left (state_of db)
    → IsAfterStep (state_of db) (state_of (with_entry db (record { worker = worker; event = events.Step })))
is_after_step db worker repairing some =
    let S = state_of db in
    let next : IsAfterStep S (next_state db.limits S events.Step) = record {
      repairing = repairing-step S.phase ∙ repairing;
      slots = refl;
      events = refl;
      left = left-step S.phase S.slots repairing some;
    } in
    subst (IsAfterStep S) (sym (after-push db.limits db.history _)) next
