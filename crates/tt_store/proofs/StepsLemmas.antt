-- Steps of a repair that are made together: they lead where they lead one after another.
use Rattle.std.proofs.Common.{◌≡◌, ℕ, zero, suc, is_some, if◌then◌else◌, [], ◌∷◌, ◌++◌, replicate, Option, None, Some, refl, sym, ap, ◌∙◌}
use Rattle.std.proofs.Math.Dec.{eqb-zero-suc, eqb-suc-suc}
use Rattle.std.specs.Option.{option_or}
use Rattle.tt_db.specs.declared.event.Event.TheVariants as events
use Rattle.tt_db.specs.declared.outcome.Outcome.{Outcome}
use Rattle.tt_db.specs.declared.outcome.StepsMade.{StepsMade}
use Rattle.tt_db.specs.declared.errors.DbError.{DbError}
use Rattle.tt_db.specs.State.{State, next_state, outcome_of}
use Rattle.tt_db.specs.Database.{Database, state_of, with_entry, refusal_of, outcome_for}
use Rattle.tt_db.specs.Steps.{step_by, with_steps_by, steps_made, refusal_behind, last_outcome as outcome_by}
use Rattle.tt_db.proofs.EntryLemmas.{after-push}
use Rattle.tt_db.proofs.StepsLemmas.{steps-entries, steps-first}
use Rattle.tt_store.specs.declared.errors.Unreached.TheVariants as unreached
use Rattle.tt_store.specs.History.{entries_by}
use Rattle.tt_store.specs.Calls.{steps, first_refused, last_outcome, with_events, Reaches, IsInWay}
use Rattle.tt_store.proofs.CallLemmas.{steps-snoc, last_outcome-snoc, after-entries}

-- ---- where they lead

-- their entries
entries_by-steps : (worker n : ℕ) → entries_by worker (steps n) ≡ replicate n (step_by worker)
entries_by-steps worker zero = refl
entries_by-steps worker (suc n) = ap (λ w. step_by worker ∷ w) (entries_by-steps worker n)

-- the database with them
with_events-steps : (worker : ℕ) (db : Database) (n : ℕ) → with_events db worker (steps n) ≡ with_steps_by worker db n
with_events-steps worker db n = ap (λ w. record db { history = db.history ++ w }) (entries_by-steps worker n) ∙ sym (steps-entries worker db n)

-- the outcome of the last
last_outcome-steps : (worker : ℕ) (db : Database) (n : ℕ) → last_outcome db.catalog db.limits (state_of db) (steps n) ≡ outcome_by worker db n
last_outcome-steps worker db zero = refl
last_outcome-steps worker db (suc n) =
    ap (last_outcome db.catalog db.limits (state_of db)) (steps-snoc n)
    ∙ last_outcome-snoc db.catalog db.limits (state_of db) (steps n) events.Step
    ∙ ap (λ (S : State). Some (outcome_of db.catalog S events.Step)) (sym (after-entries db.limits db.history worker (steps n)))
    ∙ ap (λ (d : Database). Some (outcome_for d events.Step)) (with_events-steps worker db n)

-- ---- what refuses them

-- what refuses steps after the first one
first_refused-next : (worker : ℕ) (db : Database) (n : ℕ)
    → first_refused db.catalog db.limits (next_state db.limits (state_of db) events.Step) (steps n) ≡ first_refused db.catalog db.limits (state_of (with_entry db (step_by worker))) (steps n)
first_refused-next worker db n = ap (λ (S : State). first_refused db.catalog db.limits S (steps n)) (sym (after-push db.limits db.history (step_by worker)))

-- the first refusal among as many as were asked for is that of the step behind those that are made
first_refused-made : (worker : ℕ) (db : Database) (most : ℕ)
    → first_refused db.catalog db.limits (state_of db) (steps most) ≡ refusal_behind most (steps_made worker db most) (with_steps_by worker db (steps_made worker db most))
first_refused-made worker db zero = refl
first_refused-made worker db (suc most) = by (first_refused-made worker (with_entry db (step_by worker)) most) (refusal_of db events.Step) refl
  where
    next : Database
    next = with_entry db (step_by worker)

    made : ℕ
    made = steps_made worker next most

    count_by : Option DbError → ℕ
    count_by refused = if is_some refused then 0 else suc made

    rest : Option DbError
    rest = first_refused db.catalog db.limits (next_state db.limits (state_of db) events.Step) (steps most)

    by : first_refused db.catalog db.limits (state_of next) (steps most) ≡ refusal_behind most made (with_steps_by worker next made)
        → (refused : Option DbError) → refusal_of db events.Step ≡ refused → option_or refused rest ≡ refusal_behind (suc most) (count_by refused) (with_steps_by worker db (count_by refused))
    by others (Some e) is = sym (ap (λ b. if b then None else refusal_of db events.Step) (eqb-zero-suc most) ∙ is)
    by others None is =
        first_refused-next worker db most
        ∙ others
        ∙ ap (refusal_behind most made) (steps-first worker db made)
        ∙ ap (λ b. if b then None else refusal_of (with_steps_by worker db (suc made)) events.Step) (sym (eqb-suc-suc made most))

-- where none is refused as many are made as were asked for
steps_made-accepted : (worker : ℕ) (db : Database) (most : ℕ) → first_refused db.catalog db.limits (state_of db) (steps most) ≡ None → steps_made worker db most ≡ most
steps_made-accepted worker db zero accepted = refl
steps_made-accepted worker db (suc most) accepted = by (steps_made-accepted worker (with_entry db (step_by worker)) most) (refusal_of db events.Step) accepted
  where
    next : Database
    next = with_entry db (step_by worker)

    by : (first_refused db.catalog db.limits (state_of next) (steps most) ≡ None → steps_made worker next most ≡ most)
        → (refused : Option DbError) → option_or refused (first_refused db.catalog db.limits (next_state db.limits (state_of db) events.Step) (steps most)) ≡ None
        → (if is_some refused then 0 else suc (steps_made worker next most)) ≡ suc most
    by others (Some e) accepted = cc
    by others None accepted = ap suc (others (sym (first_refused-next worker db most) ∙ accepted))

-- ---- what is made of them

-- up to this many steps of a worker are made together, and leave this database
pub record AreMade (worker : ℕ) (db : Database) (most : ℕ) (made : StepsMade) (next : Database) : Type 0 where
  pub state : next ≡ with_steps_by worker db made.count
  pub count : made.count ≡ steps_made worker db most
  pub last : made.last ≡ outcome_by worker db made.count
  pub refusal : made.refusal ≡ refusal_behind most made.count next

-- what refuses the step behind them refuses them all
first_refused-steps : (worker : ℕ) (db : Database) (most : ℕ) (made : StepsMade) (next : Database) → AreMade worker db most made next
    → first_refused db.catalog db.limits (state_of db) (steps most) ≡ made.refusal
first_refused-steps worker db most made next are =
    first_refused-made worker db most
    ∙ ap (λ n. refusal_behind most n (with_steps_by worker db n)) (sym are.count)
    ∙ ap (refusal_behind most made.count) (sym are.state)
    ∙ sym are.refusal

-- where none is refused all are made
all_are_made : (worker : ℕ) (db : Database) (most : ℕ) (made : StepsMade) (next : Database) → AreMade worker db most made next → made.refusal ≡ None → made.count ≡ most
all_are_made worker db most made next are accepted = are.count ∙ steps_made-accepted worker db most (first_refused-steps worker db most made next are ∙ accepted)

-- it is in the way of them all
pub in_way_of_steps : (worker : ℕ) (db : Database) (most : ℕ) (made : StepsMade) (next : Database) (refused : DbError) → AreMade worker db most made next
    → made.refusal ≡ Some refused → IsInWay db (steps most) (unreached.Db refused)
in_way_of_steps worker db most made next refused are is = first_refused-steps worker db most made next are ∙ is

-- where none is refused they lead to the database that they leave
pub reached_by_steps : (worker : ℕ) (db : Database) (most : ℕ) (made : StepsMade) (next : Database) (outcome : Outcome) → AreMade worker db most made next
    → made.refusal ≡ None → made.last ≡ Some outcome → Reaches db worker (steps most) next outcome
reached_by_steps worker db most made next outcome are accepted last =
    let all = all_are_made worker db most made next are accepted in
    record {
      accepted = first_refused-steps worker db most made next are ∙ accepted;
      db = are.state ∙ ap (with_steps_by worker db) all ∙ sym (with_events-steps worker db most);
      outcome_is = last_outcome-steps worker db most ∙ ap (outcome_by worker db) (sym all) ∙ sym are.last ∙ last;
    }

-- without an outcome there are none
pub no_steps : (worker : ℕ) (db : Database) (most : ℕ) (made : StepsMade) (next : Database) → AreMade worker db most made next
    → made.refusal ≡ None → made.last ≡ None → steps most ≡ []
no_steps worker db most made next are accepted none =
    ap steps (sym (all_are_made worker db most made next are accepted)) ∙ without made.count (sym are.last ∙ none)
  where
    without : (n : ℕ) → outcome_by worker db n ≡ None → steps n ≡ []
    without zero is = refl
    without (suc n) is = cc
