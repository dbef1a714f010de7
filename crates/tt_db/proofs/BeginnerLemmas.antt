-- Who began the last repair of a history, with further entries.
use Rattle.std.proofs.Common.{◌≡◌, ℕ, zero, suc, Bool, List, [], ◌∷◌, ◌++◌, fold, replicate, Option, None, Some, if◌then◌else◌, refl, ◌∙◌}
use Rattle.std.proofs.lemmas.List.Sums.{fold-append}
use Rattle.tt_generations.specs.TwoGenerations.{Phase, Idle, Repairing, is_repairing, phase_after_step}
use Rattle.tt_db.specs.declared.event.Event.{Event}
use Rattle.tt_db.specs.declared.event.Event.TheVariants as events
use Rattle.tt_db.specs.declared.event.Entry.{Entry}
use Rattle.tt_db.specs.State.{State, next_state}
use Rattle.tt_db.specs.Database.{Database, state_of, with_entry, repair_worker_of}
use Rattle.tt_db.specs.Steps.{step_by}
use Rattle.tt_db.specs.History.{beginner_by, beginner_after, last_beginner}
use Rattle.tt_db.specs.Laws.{repair_worker_by}
use Rattle.tt_db.proofs.EntryLemmas.{after-push}

-- one more entry
pub beginner-push : (history : List Entry) (e : Entry) → last_beginner (history ++ e ∷ []) ≡ beginner_after (last_beginner history) e
beginner-push history e = fold-append beginner_after 0 history (e ∷ [])

-- steps begin no repair
beginner-steps-from : (n worker before : ℕ) → fold beginner_after before (replicate n (step_by worker)) ≡ before
beginner-steps-from zero worker before = refl
beginner-steps-from (suc n) worker before = beginner-steps-from n worker before

pub beginner-steps : (history : List Entry) (n worker : ℕ) → last_beginner (history ++ replicate n (step_by worker)) ≡ last_beginner history
beginner-steps history n worker = fold-append beginner_after 0 history (replicate n (step_by worker)) ∙ beginner-steps-from n worker (last_beginner history)

-- the worker of the repair under way, by whether one is, and by who began the last one
abbrev worker_if : Bool → ℕ → Option ℕ
worker_if repairing worker = if repairing then Some worker else None

pub repair_worker-entry : (db : Database) (e : Entry) → repair_worker_of (with_entry db e) ≡ repair_worker_by (repair_worker_of db) e.worker e.event
repair_worker-entry db e =
    (λ i. worker_if (is_repairing (after-push db.limits db.history e i).phase) (beginner-push db.history e i)) ∙ by (state_of db) (last_beginner db.history) e.event
  where
    step : (p : Phase) (before : ℕ) → worker_if (is_repairing (phase_after_step p)) before ≡ worker_if (is_repairing p) before
    step Idle before = refl
    step (Repairing edits n) before = refl

    by : (S : State) (before : ℕ) (event : Event)
        → worker_if (is_repairing (next_state db.limits S event).phase) (beginner_by before e.worker event) ≡ repair_worker_by (worker_if (is_repairing S.phase) before) e.worker event
    by S before (events.Write action) = refl
    by S before (events.Begin edits) = refl
    by S before events.Step = step S.phase before
    by S before events.Switch = refl
    by S before events.Abort = refl
