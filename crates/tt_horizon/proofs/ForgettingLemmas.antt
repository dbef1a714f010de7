-- A database that has forgotten what lies before a time.
use Rattle.std.proofs.Common.{◌≡◌, ℕ, ◌+◌, ◌-◌, ◌≤◌, false, List, [], ◌++◌, map, length, drop, zip, Some, refl, sym, ap, subst, ◌∙◌, arith, length-append, length-drop}
use Rattle.std.proofs.lemmas.List.{length-map, map-append}
use Rattle.tt_values.specs.declared.action.Action.{Action}
use Rattle.tt_values.specs.Tables.{IsCatalog}
use Rattle.tt_values.specs.RowWrites.{Slots}
use Rattle.tt_generations.specs.TwoGenerations.{Idle, is_repairing}
use Rattle.tt_db.specs.Limits.{Fits}
use Rattle.tt_db.specs.State.{State, start, current_at, now_of, IsLegal}
use Rattle.tt_db.specs.Database.{Database, state_of, now_in, current_slots, current_of_db}
use Rattle.tt_db.proofs.LawProofs.{each_slot_has_its_place}
use Rattle.tt_db.proofs.HistoryLemmas.{entries-count}
use Rattle.tt_horizon.specs.Ground.{kept_slot, on_ground, moved}
use Rattle.tt_horizon.specs.Forgetting.{workers_of, ground_of, ground_worker, entry_of, entries_behind, forgotten_history, forgotten_db}
use Rattle.tt_horizon.specs.Laying.{database_of_ground, with_entries}
use Rattle.tt_horizon.specs.Laws.{Leaves, state_behind, Forgets, ForgettingIsSound}
use Rattle.tt_horizon.proofs.GroundSlotsLemmas.{forgetting_keeps_contents}
use Rattle.tt_horizon.proofs.InsertsLemmas.{ground_leaves_content}
use Rattle.tt_horizon.proofs.RowCountsLemmas.{ground_is_small}
use Rattle.tt_horizon.proofs.AcceptedLemmas.{AllAccepted-legal, AllAccepted-drop, All-few_writes, few_slots, few_entries}
use Rattle.tt_horizon.proofs.GroundLemmas.{AllActionsPass-legal, IsWithinTables-legal}
use Rattle.tt_horizon.proofs.HistoryLemmas.{AreActions, AreActions-append, AreActions-ground, AreActions-pairs, action_of_pair, length-AreActions, after-actions, IsLegal-actions, AllActionsPass-append, AllActionsPass-pairs, kept_slots-pairs}
use Rattle.tt_horizon.proofs.WorkerLemmas.{length-workers_of}

-- the actions of the forgotten history
abbrev actions_after : Database → ℕ → List Action
actions_after db time = ground_of db time ++ map action_of_pair (zip (drop time (workers_of db.history)) (drop time (current_slots db)))

AreActions-forgotten : (db : Database) (time : ℕ) → AreActions (forgotten_history db time) (actions_after db time)
AreActions-forgotten db time =
    let pairs = zip (drop time (workers_of db.history)) (drop time (current_slots db)) in
    AreActions-append (map (entry_of ground_worker) (ground_of db time)) (entries_behind db time) (ground_of db time) (map action_of_pair pairs)
    (AreActions-ground ground_worker (ground_of db time)) (AreActions-pairs pairs)

-- there are as many workers as slots
pub as_many_workers : (db : Database) → length (workers_of db.history) ≡ now_in db
as_many_workers db = length-workers_of 1 db.history ∙ each_slot_has_its_place db.limits db.history

as_many_behind : (db : Database) (time : ℕ) → length (drop time (workers_of db.history)) ≡ length (drop time (current_slots db))
as_many_behind db time = length-drop time (workers_of db.history) ∙ ap (λ n. n - time) (as_many_workers db) ∙ sym (length-drop time (current_slots db))

-- the actions are those of the slots on the ground
slots-forgotten : (db : Database) (time : ℕ) → map Some (actions_after db time) ≡ on_ground (ground_of db time) (current_slots db) time
slots-forgotten db time =
    let workers = drop time (workers_of db.history) in
    let W = drop time (current_slots db) in
    map-append Some (ground_of db time) (map action_of_pair (zip workers W))
    ∙ ap (λ (V : Slots). map Some (ground_of db time) ++ V) (kept_slots-pairs workers W (as_many_behind db time))

state-forgotten : (db : Database) (time : ℕ) → state_of (forgotten_db db time) ≡ state_behind db time
state-forgotten db time =
    after-actions db.limits start (forgotten_history db time) (actions_after db time) (AreActions-forgotten db time)
    ∙ (λ i. record { slots = slots-forgotten db time i; generation = 0; events = count i; phase = Idle; closed = [] })
  where
    count : 0 + length (forgotten_history db time) ≡ length (forgotten_history db time)
    count = omega arith

length-on_ground : (G : List Action) (W : Slots) (time : ℕ) → length (on_ground G W time) ≡ moved time (length G) (length W)
length-on_ground G W time =
    let parts = length-append (map Some G) (map kept_slot (drop time W)) in
    let front = length-map G (λ (a : Action). Some a) in
    let rest = length-map (drop time W) kept_slot in
    let behind = length-drop time W in
    omega (arith, parts, front, rest, behind)

-- there are as many entries as slots on the ground
length-forgotten : (db : Database) (time : ℕ) → length (forgotten_history db time) ≡ moved time (length (ground_of db time)) (now_in db)
length-forgotten db time =
    length-AreActions (forgotten_history db time) (actions_after db time) (AreActions-forgotten db time)
    ∙ sym (length-map (actions_after db time) (λ (a : Action). Some a))
    ∙ ap (λ (V : Slots). length V) (slots-forgotten db time)
    ∙ length-on_ground (ground_of db time) (current_slots db) time

-- a history has at least as many entries as slots
enough_entries : (db : Database) → now_in db ≤ length db.history
enough_entries db = omega (arith, each_slot_has_its_place db.limits db.history, entries-count 1 0 db.history)

small : (db : Database) (time : ℕ) → IsLegal db.catalog db.limits db.history → time ≤ now_in db → length (ground_of db time) ≤ time
small db time legal within =
    ground_is_small (length db.catalog) (current_slots db) time (All-few_writes db.catalog (current_slots db) (AllAccepted-legal db.catalog db.limits db.history legal)) within

IsLegal-forgotten : (db : Database) (time : ℕ) → IsLegal db.catalog db.limits db.history → time ≤ now_in db → IsLegal db.catalog db.limits (forgotten_history db time)
IsLegal-forgotten db time legal within =
    let accepted = AllAccepted-legal db.catalog db.limits db.history legal in
    let workers = drop time (workers_of db.history) in
    let behind = AllActionsPass-pairs db.catalog workers (drop time (current_slots db)) (AllAccepted-drop db.catalog time (current_slots db) accepted) in
    let count = length-forgotten db time in
    let few = small db time legal within in
    let slots = few_slots db.catalog db.limits db.history legal in
    let entries = few_entries db.catalog db.limits db.history legal in
    let enough = enough_entries db in
    IsLegal-actions db.catalog db.limits start (forgotten_history db time) (actions_after db time) (AreActions-forgotten db time)
    (AllActionsPass-append db.catalog (ground_of db time) (map action_of_pair (zip workers (drop time (current_slots db)))) (AllActionsPass-legal db.catalog db.limits db.history time legal) behind)
    (omega (arith, count, few, slots, within)) (omega (arith, count, few, entries, enough, within))

pub forgetting_is_sound : ForgettingIsSound
forgetting_is_sound db time catalog fits legal idle within =
    let G = ground_of db time in
    let W = current_slots db in
    let leaves : Leaves G (current_of_db db time) =
    ground_leaves_content (length db.catalog) (current_of_db db time) (IsWithinTables-legal db.catalog db.limits db.history time catalog legal) in
    let state = state-forgotten db time in
    let few = small db time legal within in
    record {
      is = refl;
      size_is = refl;
      few = few;
      legal = IsLegal-forgotten db time legal within;
      state = state;
      leaves = leaves;
      now = ap (λ (S : State). now_of S) state ∙ length-on_ground G W time;
      contents = λ u behind past. ap (λ (S : State). current_at S (moved time (length G) u)) state ∙ forgetting_keeps_contents W G time u leaves behind past;
      no_more_entries = omega (arith, length-forgotten db time, few, enough_entries db, within);
    }

-- ---- how it is made

-- the ground has one slot for each of its actions
pub now-ground : (db : Database) (time : ℕ) → now_in (database_of_ground db time) ≡ length (ground_of db time)
now-ground db time =
    let G = ground_of db time in
    ap (λ (S : State). now_of S) (after-actions db.limits start (map (entry_of ground_worker) G) G (AreActions-ground ground_worker G)) ∙ length-map G (λ (a : Action). Some a)

-- the ground first, and then the slots behind the time
pub Forgets-made : (db next after : Database) (time size : ℕ) → IsCatalog db.catalog → Fits db.limits → IsLegal db.catalog db.limits db.history
    → is_repairing (state_of db).phase ≡ false → time ≤ now_in db → next ≡ database_of_ground db time
    → size ≡ now_in next → after ≡ with_entries next (entries_behind db time) → Forgets db after time size
Forgets-made db next after time size catalog fits legal idle within first counted last =
    let is : after ≡ forgotten_db db time = last ∙ ap (λ (d : Database). with_entries d (entries_behind db time)) first in
    let size_is : size ≡ length (ground_of db time) = counted ∙ ap (λ (d : Database). now_in d) first ∙ now-ground db time in
    subst (λ d. Forgets db d time size) (sym is) (subst (λ n. Forgets db (forgotten_db db time) time n) (sym size_is) (forgetting_is_sound db time catalog fits legal idle within))
