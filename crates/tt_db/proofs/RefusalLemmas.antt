-- What is known of an event that isn't refused.
use Rattle.std.proofs.Common.{◌≡◌, ℕ, ◌+◌, ◌<◌, ◌≤◌, Bool, true, false, not, ◌==◌, ◌||◌, nat_lt, List, [], ◌∷◌, ◌++◌, length, take, drop, get_or, Option, None, Some, if◌then◌else◌, refl, sym, ap, ◌∙◌, arith}
use Rattle.std.proofs.lemmas.Bool.Decides.{nat_tests}
use Rattle.std.proofs.lemmas.List.Elements.{All-nil, All-cons}
use Rattle.std.proofs.lemmas.List.{drop_more, take_more}
use Rattle.std.specs.List.{All, list_any}
use Rattle.std.specs.Option.{option_map, option_or}
use Rattle.tt_values.specs.declared.action.Action.{Action}
use Rattle.tt_values.specs.declared.checking.CheckError.{CheckError}
use Rattle.tt_values.specs.Tables.{Tables}
use Rattle.tt_values.specs.Check.{action_fault}
use Rattle.tt_values.specs.RowWrites.{Slots}
use Rattle.tt_repair_laws.specs.declared.edit.Edit.{Edit}
use Rattle.tt_repair_laws.specs.declared.edit.Edit.TheVariants.{Cancel, Replace}
use Rattle.tt_repair_laws.specs.Edits.{slot_number, HasNoFault}
use Rattle.tt_generations.specs.TwoGenerations.{Phase, Idle, Repairing, is_repairing, NamesSlot}
use Rattle.tt_db.specs.declared.limits.Limits.{Limits}
use Rattle.tt_db.specs.declared.event.Event.{Event}
use Rattle.tt_db.specs.declared.event.Event.TheVariants as events
use Rattle.tt_db.specs.declared.errors.DbError.{DbError}
use Rattle.tt_db.specs.declared.errors.DbError.TheVariants as errors
use Rattle.tt_db.specs.State.{State, now_of, slots_left, edits_fault, missing_slot, slot_edited_twice, first_refusal, refused_if, full_at, unless_repairing, unless_caught_up, refusal}

-- the first of some refusals isn't there, and none of the others
record IsNoRefusal (first : Option DbError) (others : List (Option DbError)) : Type 0 where
  none : first ≡ None
  rest : first_refusal others ≡ None

no_first : (first : Option DbError) (others : List (Option DbError)) → first_refusal (first ∷ others) ≡ None → IsNoRefusal first others
no_first None others h = record { none = refl; rest = h }
no_first (Some e) others h = cc

not_refused : (b : Bool) (e : DbError) → refused_if b e ≡ None → b ≡ false
not_refused true e h = cc
not_refused false e h = refl

none_mapped : {A : Type 0} (f : A → DbError) (x : Option A) → option_map f x ≡ None → x ≡ None
none_mapped f None h = refl
none_mapped f (Some a) h = cc

no_left : (a b : Bool) → (a || b) ≡ false → a ≡ false
no_left true b h = h
no_left false b h = refl

no_right : (a b : Bool) → (a || b) ≡ false → b ≡ false
no_right true b h = cc
no_right false b h = h

not_false : (b : Bool) → not b ≡ false → b ≡ true
not_false true h = refl
not_false false h = cc

-- a count that isn't at its limit is below it
below : (count limit : ℕ) → full_at count limit ≡ None → count ≤ limit → count < limit
below count limit none within =
    let other : (count == limit) ≡ false = not_refused (count == limit) (errors.Full limit) none in
    grind (arith, nat_tests)

-- what is known of an action that isn't refused
pub record IsAcceptedAction (tables : Tables) (limits : Limits) (S : State) (action : Action) : Type 0 where
  pub no_fault : action_fault tables action.writes ≡ None
  pub room : full_at (now_of S) limits.slots ≡ None
  pub events : full_at S.events limits.events ≡ None

pub accepted_action : (tables : Tables) (limits : Limits) (S : State) (action : Action) → refusal tables limits S (events.Write action) ≡ None → IsAcceptedAction tables limits S action
accepted_action tables limits S action h =
    let slots = full_at (now_of S) limits.slots in
    let events = full_at S.events limits.events in
    let first = no_first (option_map errors.Statement (action_fault tables action.writes)) (slots ∷ events ∷ []) h in
    let second = no_first slots (events ∷ []) first.rest in
    let third = no_first events [] second.rest in
    record { no_fault = none_mapped errors.Statement (action_fault tables action.writes) first.none; room = second.none; events = third.none }

-- of the beginning of a repair
pub record IsAcceptedBegin (tables : Tables) (limits : Limits) (S : State) (edits : List Edit) : Type 0 where
  pub no_fault : edits_fault tables edits ≡ None
  pub idle : is_repairing S.phase ≡ false
  pub there : missing_slot (now_of S) edits ≡ None
  pub events : full_at S.events limits.events ≡ None

pub accepted_begin : (tables : Tables) (limits : Limits) (S : State) (edits : List Edit) → refusal tables limits S (events.Begin edits) ≡ None → IsAcceptedBegin tables limits S edits
accepted_begin tables limits S edits h =
    let repairing = refused_if (is_repairing S.phase) errors.Repairing in
    let missing = option_map errors.NoSlot (missing_slot (now_of S) edits) in
    let twice = option_map errors.EditTwice (slot_edited_twice [] edits) in
    let many = refused_if (nat_lt limits.edits (length edits)) errors.TooManyEdits in
    let events = full_at S.events limits.events in
    let first = no_first (option_map errors.Statement (edits_fault tables edits)) (repairing ∷ missing ∷ twice ∷ many ∷ events ∷ []) h in
    let second = no_first repairing (missing ∷ twice ∷ many ∷ events ∷ []) first.rest in
    let third = no_first missing (twice ∷ many ∷ events ∷ []) second.rest in
    let fourth = no_first twice (many ∷ events ∷ []) third.rest in
    let fifth = no_first many (events ∷ []) fourth.rest in
    let sixth = no_first events [] fifth.rest in
    record {
      no_fault = none_mapped errors.Statement (edits_fault tables edits) first.none;
      idle = not_refused (is_repairing S.phase) errors.Repairing second.none;
      there = none_mapped errors.NoSlot (missing_slot (now_of S) edits) third.none;
      events = sixth.none;
    }

-- of a step, of a switch and of the end of a repair: one is under way, and there is room for an entry
pub record IsAcceptedInRepair (limits : Limits) (S : State) (refused : Option DbError) : Type 0 where
  pub repairing : is_repairing S.phase ≡ true
  pub left : refused ≡ None
  pub events : full_at S.events limits.events ≡ None

accepted_in_repair : (limits : Limits) (S : State) (left : Option DbError) → first_refusal (unless_repairing S.phase ∷ left ∷ full_at S.events limits.events ∷ []) ≡ None
    → IsAcceptedInRepair limits S left
accepted_in_repair limits S left h =
    let events = full_at S.events limits.events in
    let first = no_first (unless_repairing S.phase) (left ∷ events ∷ []) h in
    let second = no_first left (events ∷ []) first.rest in
    let third = no_first events [] second.rest in
    record {
      repairing = not_false (is_repairing S.phase) (not_refused (not (is_repairing S.phase)) errors.NotRepairing first.none);
      left = second.none;
      events = third.none;
    }

-- each event that isn't refused finds room for its entry
not_full : (tables : Tables) (limits : Limits) (S : State) (event : Event) → refusal tables limits S event ≡ None → full_at S.events limits.events ≡ None
not_full tables limits S (events.Write action) h = (accepted_action tables limits S action h).events
not_full tables limits S (events.Begin edits) h = (accepted_begin tables limits S edits h).events
not_full tables limits S events.Step h = (accepted_in_repair limits S (refused_if (slots_left S == 0) errors.NothingLeft) h).events
not_full tables limits S events.Switch h = (accepted_in_repair limits S (unless_caught_up (slots_left S)) h).events
not_full tables limits S events.Abort h =
    let first = no_first (unless_repairing S.phase) (full_at S.events limits.events ∷ []) h in
    (no_first (full_at S.events limits.events) [] first.rest).none

pub has_room_for_entry : (tables : Tables) (limits : Limits) (S : State) (event : Event) → refusal tables limits S event ≡ None → S.events ≤ limits.events → S.events < limits.events
has_room_for_entry tables limits S event h within = below S.events limits.events (not_full tables limits S event h) within

pub has_room_for_slot : (tables : Tables) (limits : Limits) (S : State) (action : Action) → refusal tables limits S (events.Write action) ≡ None → now_of S ≤ limits.slots → now_of S < limits.slots
has_room_for_slot tables limits S action h within = below (now_of S) limits.slots (accepted_action tables limits S action h).room within

-- a step finds a slot, and a switch a repair without any
pub step_finds_slot : (tables : Tables) (limits : Limits) (S : State) → refusal tables limits S events.Step ≡ None → 0 < slots_left S
step_finds_slot tables limits S h =
    let left = (accepted_in_repair limits S (refused_if (slots_left S == 0) errors.NothingLeft) h).left in
    let other : (slots_left S == 0) ≡ false = not_refused (slots_left S == 0) errors.NothingLeft left in
    grind (arith, nat_tests)

pub switch_finds_none : (tables : Tables) (limits : Limits) (S : State) → refusal tables limits S events.Switch ≡ None → slots_left S ≡ 0
switch_finds_none tables limits S h =
    let left = (accepted_in_repair limits S (unless_caught_up (slots_left S)) h).left in
    let none : nat_lt 0 (slots_left S) ≡ false = not_refused (nat_lt 0 (slots_left S)) (errors.NotCaughtUp (slots_left S)) left in
    grind (arith, nat_tests)

pub switch_finds_repair : (tables : Tables) (limits : Limits) (S : State) → refusal tables limits S events.Switch ≡ None → is_repairing S.phase ≡ true
switch_finds_repair tables limits S h = (accepted_in_repair limits S (unless_caught_up (slots_left S)) h).repairing

-- where no repair is under way
pub is_idle : (phase : Phase) → is_repairing phase ≡ false → phase ≡ Idle
is_idle Idle h = refl
is_idle (Repairing edits n) h = cc

is_there : (t slots : ℕ) → ((t == 0) || nat_lt slots t) ≡ false → (1 ≤ t) × (t ≤ slots)
is_there t slots neither =
    let first : (t == 0) ≡ false = no_left (t == 0) (nat_lt slots t) neither in
    let second : nat_lt slots t ≡ false = no_right (t == 0) (nat_lt slots t) neither in
    (grind (arith, nat_tests), grind (arith, nat_tests))

-- the slots of edits are there
pub All-names : (W : Slots) (edits : List Edit) → missing_slot (length W) edits ≡ None → All (NamesSlot W) edits
All-names W [] h = All-nil (NamesSlot W)
All-names W (e ∷ edits) h = by ((slot_number e == 0) || nat_lt (length W) (slot_number e)) refl h (All-names W edits)
  where
    by : (b : Bool) → ((slot_number e == 0) || nat_lt (length W) (slot_number e)) ≡ b → (if b then Some (slot_number e) else missing_slot (length W) edits) ≡ None
        → (missing_slot (length W) edits ≡ None → All (NamesSlot W) edits) → All (NamesSlot W) (e ∷ edits)
    by true is none rest = cc
    by false is none rest = All-cons (NamesSlot W) e edits (is_there (slot_number e) (length W) is) (rest none)

-- and their actions have no fault
pub All-accepted : (tables : Tables) (edits : List Edit) → edits_fault tables edits ≡ None → All (HasNoFault tables) edits
All-accepted tables [] h = All-nil (HasNoFault tables)
All-accepted tables (Cancel t ∷ edits) h = All-cons (HasNoFault tables) (Cancel t) edits tt (All-accepted tables edits h)
All-accepted tables (Replace t action ∷ edits) h = by (action_fault tables action.writes) refl h (All-accepted tables edits)
  where
    by : (fault : Option CheckError) → action_fault tables action.writes ≡ fault → option_or fault (edits_fault tables edits) ≡ None
        → (edits_fault tables edits ≡ None → All (HasNoFault tables) edits) → All (HasNoFault tables) (Replace t action ∷ edits)
    by None is none rest = All-cons (HasNoFault tables) (Replace t action) edits is (rest none)
    by (Some e) is none rest = cc

-- one edit more is compared with those before it
twice-next : (E : List Edit) (k : ℕ) (e : Edit) → e ≡ get_or E k e → k < length E
    → slot_edited_twice (take k E) (drop k E) ≡ (if list_any (λ d. slot_number e == slot_number d) (take k E) then Some (slot_number e) else slot_edited_twice (take k E ++ e ∷ []) (drop (k + 1) E))
twice-next E k e at within = ap (slot_edited_twice (take k E)) (drop_more E k e within ∙ ap (λ d. d ∷ drop (k + 1) E) (sym at))

pub twice-found : (E : List Edit) (k : ℕ) (e : Edit) → e ≡ get_or E k e → k < length E → list_any (λ d. slot_number e == slot_number d) (take k E) ≡ true
    → slot_edited_twice (take k E) (drop k E) ≡ Some (slot_number e)
twice-found E k e at within found =
    twice-next E k e at within ∙ ap (λ b. if b then Some (slot_number e) else slot_edited_twice (take k E ++ e ∷ []) (drop (k + 1) E)) found

pub twice-not_found : (E : List Edit) (k : ℕ) (e : Edit) → e ≡ get_or E k e → k < length E → list_any (λ d. slot_number e == slot_number d) (take k E) ≡ false
    → slot_edited_twice (take k E) (drop k E) ≡ slot_edited_twice (take (k + 1) E) (drop (k + 1) E)
twice-not_found E k e at within none =
    twice-next E k e at within ∙ ap (λ b. if b then Some (slot_number e) else slot_edited_twice (take k E ++ e ∷ []) (drop (k + 1) E)) none
    ∙ ap (λ earlier. slot_edited_twice earlier (drop (k + 1) E)) (ap (λ d. take k E ++ d ∷ []) at ∙ sym (take_more E k e within))
