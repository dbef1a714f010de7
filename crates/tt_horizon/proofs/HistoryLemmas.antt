-- Histories of actions alone: the state that they lead to, and that they are legal where no action has a fault and there is room.
use Rattle.std.proofs.Common.{◌≡◌, ℕ, suc, ◌+◌, ◌≤◌, ◌<◌, List, [], ◌∷◌, ◌++◌, map, length, fold, zip, Option, None, Some, unwrap_or, option_map, refl, sym, ap, subst, ◌∙◌, arith, append-nil, append_assoc, length-append}
use Rattle.tt_values.specs.declared.action.Action.{Action}
use Rattle.tt_values.specs.Tables.{Tables}
use Rattle.tt_values.specs.Check.{action_fault}
use Rattle.tt_values.specs.Action.{action_of}
use Rattle.tt_values.specs.RowWrites.{Slots}
use Rattle.tt_db.specs.declared.limits.Limits.{Limits}
use Rattle.tt_db.specs.declared.event.Event.TheVariants as events
use Rattle.tt_db.specs.declared.event.Entry.{Entry}
use Rattle.tt_db.specs.declared.errors.DbError.TheVariants as errors
use Rattle.tt_db.specs.State.{State, now_of, next_state, first_refusal, refusal, IsLegalFrom}
use Rattle.tt_db.proofs.EntryLemmas.{full_at-below}
use Rattle.tt_horizon.specs.Ground.{kept_slot}
use Rattle.tt_horizon.specs.Forgetting.{entry_of}
use Rattle.tt_horizon.proofs.AcceptedLemmas.{AllAccepted}
use Rattle.tt_horizon.proofs.GroundLemmas.{AllActionsPass}

-- entries are these actions, one each
abbrev pub AreActions : List Entry → List Action → Type 0
AreActions [] [] = Unit {0}
AreActions [] (a ∷ actions) = ⊥
AreActions (e ∷ es) [] = ⊥
AreActions (e ∷ es) (a ∷ actions) = (e.event ≡ events.Write a) × AreActions es actions

pub AreActions-append : (es fs : List Entry) (actions bs : List Action) → AreActions es actions → AreActions fs bs → AreActions (es ++ fs) (actions ++ bs)
AreActions-append [] fs [] bs h k = k
AreActions-append [] fs (a ∷ actions) bs h k = absurd h
AreActions-append (e ∷ es) fs [] bs h k = absurd h
AreActions-append (e ∷ es) fs (a ∷ actions) bs h k = (h.0, AreActions-append es fs actions bs h.1 k)

pub AreActions-ground : (worker : ℕ) (G : List Action) → AreActions (map (entry_of worker) G) G
AreActions-ground worker [] = tt
AreActions-ground worker (a ∷ G) = (refl, AreActions-ground worker G)

-- the entry of a worker and a slot, and its action
abbrev pub entry_of_pair : ℕ × Option Action → Entry
entry_of_pair p = entry_of p.0 (unwrap_or p.1 (action_of []))

abbrev pub action_of_pair : ℕ × Option Action → Action
action_of_pair p = unwrap_or p.1 (action_of [])

pub AreActions-pairs : (ps : List (ℕ × Option Action)) → AreActions (map entry_of_pair ps) (map action_of_pair ps)
AreActions-pairs [] = tt
AreActions-pairs (p ∷ ps) = (refl, AreActions-pairs ps)

pub length-AreActions : (es : List Entry) (actions : List Action) → AreActions es actions → length es ≡ length actions
length-AreActions [] [] h = refl
length-AreActions [] (a ∷ actions) h = absurd h
length-AreActions (e ∷ es) [] h = absurd h
length-AreActions (e ∷ es) (a ∷ actions) h = ap (λ n. suc n) (length-AreActions es actions h.1)

-- ---- the state that they lead to

pub after-actions : (limits : Limits) (S : State) (es : List Entry) (actions : List Action) → AreActions es actions
    → fold (λ T e. next_state limits T e.event) S es ≡ record S { slots = S.slots ++ map Some actions; events = S.events + length es }
after-actions limits S [] [] h =
    let none : S.events ≡ S.events + 0 = omega arith in
    λ i. record S { slots = sym (append-nil S.slots) i; events = none i }
after-actions limits S [] (a ∷ actions) h = absurd h
after-actions limits S (e ∷ es) [] h = absurd h
after-actions limits S (e ∷ es) (a ∷ actions) h =
    let more : (S.events + 1) + length es ≡ S.events + suc (length es) = omega arith in
    ap (λ event. fold (λ T d. next_state limits T d.event) (next_state limits S event) es) h.0
    ∙ after-actions limits (next_state limits S (events.Write a)) es actions h.1
    ∙ (λ i. record S { slots = append_assoc S.slots (Some a ∷ []) (map Some actions) i; events = more i })

-- ---- they are legal

accepted : (tables : Tables) (limits : Limits) (S : State) (a : Action) → action_fault tables a.writes ≡ None → now_of S < limits.slots → S.events < limits.events
    → refusal tables limits S (events.Write a) ≡ None
accepted tables limits S a none slots entries =
    let room = full_at-below (now_of S) limits.slots slots in
    let more_room = full_at-below S.events limits.events entries in
    λ i. first_refusal (option_map errors.Statement (none i) ∷ room i ∷ more_room i ∷ [])

pub IsLegal-actions : (tables : Tables) (limits : Limits) (S : State) (es : List Entry) (actions : List Action) → AreActions es actions → AllActionsPass tables actions
    → now_of S + length es ≤ limits.slots → S.events + length es ≤ limits.events → IsLegalFrom tables limits S es
IsLegal-actions tables limits S [] [] h pass slots entries = tt
IsLegal-actions tables limits S [] (a ∷ actions) h pass slots entries = absurd h
IsLegal-actions tables limits S (e ∷ es) [] h pass slots entries = absurd h
IsLegal-actions tables limits S (e ∷ es) (a ∷ actions) h pass slots entries =
    let longer = length-append S.slots (Some a ∷ []) in
    let T = next_state limits S (events.Write a) in
    let rest = IsLegal-actions tables limits T es actions h.1 pass.1 (omega (arith, slots, longer)) (omega (arith, entries)) in
    subst (λ event. (refusal tables limits S event ≡ None) × IsLegalFrom tables limits (next_state limits S event) es) (sym h.0)
    (accepted tables limits S a pass.0 (omega (arith, slots)) (omega (arith, entries)), rest)

-- ---- the slots behind a time

pub AllActionsPass-append : (tables : Tables) (actions bs : List Action) → AllActionsPass tables actions → AllActionsPass tables bs → AllActionsPass tables (actions ++ bs)
AllActionsPass-append tables [] bs h k = k
AllActionsPass-append tables (a ∷ actions) bs h k = (h.0, AllActionsPass-append tables actions bs h.1 k)

pub AllActionsPass-pairs : (tables : Tables) (workers : List ℕ) (W : Slots) → AllAccepted tables W → AllActionsPass tables (map action_of_pair (zip workers W))
AllActionsPass-pairs tables [] W h = tt
AllActionsPass-pairs tables (worker ∷ workers) [] h = tt
AllActionsPass-pairs tables (worker ∷ workers) (None ∷ W) h = (refl, AllActionsPass-pairs tables workers W h.1)
AllActionsPass-pairs tables (worker ∷ workers) (Some a ∷ W) h = (h.0, AllActionsPass-pairs tables workers W h.1)

kept_slot-is : (s : Option Action) → Some (unwrap_or s (action_of [])) ≡ kept_slot s
kept_slot-is None = refl
kept_slot-is (Some a) = refl

pub kept_slots-pairs : (workers : List ℕ) (W : Slots) → length workers ≡ length W → map Some (map action_of_pair (zip workers W)) ≡ map kept_slot W
kept_slots-pairs [] [] h = refl
kept_slots-pairs [] (s ∷ W) h = absurd (omega (arith, h))
kept_slots-pairs (worker ∷ workers) [] h = absurd (omega (arith, h))
kept_slots-pairs (worker ∷ workers) (s ∷ W) h =
    let rest = kept_slots-pairs workers W (omega (arith, h)) in
    λ i. kept_slot-is s i ∷ rest i
