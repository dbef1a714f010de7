-- What a repair would come to is refused as its beginning is: the history has room for its steps.
use Rattle.std.proofs.Common.{◌≡◌, ℕ, ◌==◌, true, false, cond, List, Option, None, Some, Result, Ok, Err, OnOk, IfOk, IfErr, refl, sym, ap, ◌∙◌, arith}
use Rattle.std.proofs.lemmas.Bool.Decides.{nat_tests}
use Rattle.std.specs.Option.{option_or}
use Rattle.tt_repair_laws.specs.declared.edit.Edit.{Edit}
use Rattle.tt_generations.specs.TwoGenerations.{Repairing, is_repairing}
use Rattle.tt_db.specs.declared.event.Event.TheVariants as events
use Rattle.tt_db.specs.declared.errors.DbError.{DbError}
use Rattle.tt_db.specs.Errors.{refusal_of_error}
use Rattle.tt_db.specs.State.{State, next_state}
use Rattle.tt_db.specs.Database.{Database, state_of, refusal_of}
use Rattle.tt_db.specs.Steps.{with_steps_by, steps_made}
use Rattle.tt_db.specs.Trials.{begun_trial, slots_to_try, refusal_of_steps, tried_refusal}
use Rattle.tt_db.proofs.EntryLemmas.{after-push}
use Rattle.tt_db.proofs.StepsLemmas.{steps-made}
use Rattle.tt_commands.specs.Failures.{IsRefusal}
use Rattle.tt_commands.specs.Room.{has_no_room_to_end, full_by_repair, refusal_in_session, CanEnd}
use Rattle.tt_commands.specs.Repairing.{entry_by}
use Rattle.tt_commands.proofs.StepLemmas.{can_end, accepted_in_session}
use Rattle.tt_commands.proofs.RoomLemmas.{refused_in_session}
use Rattle.tt_commands.proofs.ResultLemmas.{on_ok}

-- the beginning of a repair leaves room for its end
abbrev pub LeavesRoom : Database → List Edit → Type 0
LeavesRoom db edits = has_no_room_to_end db.limits (next_state db.limits (state_of db) (events.Begin edits)) ≡ false

-- once begun, it can be ended
begun-can_end : (db : Database) (edits : List Edit) → LeavesRoom db edits → CanEnd (begun_trial db edits)
begun-can_end db edits room =
    let begun : state_of (begun_trial db edits) ≡ next_state db.limits (state_of db) (events.Begin edits) = after-push db.limits db.history (entry_by 0 (events.Begin edits)) in
    can_end (begun_trial db edits) (ap (λ (S : State). is_repairing S.phase) begun) (ap (has_no_room_to_end db.limits) begun ∙ room)

-- none of its steps is refused
steps-accepted : (db : Database) (edits : List Edit) → LeavesRoom db edits → refusal_of_steps 0 (begun_trial db edits) (slots_to_try db edits) ≡ None
steps-accepted db edits room =
    let begun = begun_trial db edits in
    let count = slots_to_try db edits in
    let is = begun-can_end db edits room in
    let known = steps-made 0 begun count (omega (arith, is.room)) in
    let all : steps_made 0 begun count ≡ count = omega (arith, known, is.room) in
    let test : (steps_made 0 begun count == count) ≡ true = grind (arith, nat_tests, all) in
    ap (λ b. cond b None (refusal_of (with_steps_by 0 begun (steps_made 0 begun count)) events.Step)) test

or-none : (first second : Option DbError) → second ≡ None → option_or first second ≡ first
or-none None second is = is
or-none (Some e) second is = refl

-- so it is refused as its beginning is
pub tried-refused : (db : Database) (edits : List Edit) → LeavesRoom db edits → tried_refusal db edits ≡ refusal_of db (events.Begin edits)
tried-refused db edits room = or-none (refusal_of db (events.Begin edits)) _ (steps-accepted db edits room)

pub trial-accepted : {X : Type 0} (db : Database) (edits : List Edit) (r : Result X DbError) → LeavesRoom db edits → OnOk r (tried_refusal db edits ≡ None)
    → OnOk r (refusal_in_session db (events.Begin edits) ≡ None)
trial-accepted db edits r room none =
    on_ok r (λ (is : tried_refusal db edits ≡ None). accepted_in_session db (events.Begin edits) (sym (tried-refused db edits room) ∙ is) room) none

pub trial-refused : {X : Type 0} (db : Database) (edits : List Edit) (r : Result X DbError) → LeavesRoom db edits → IfErr r (λ e. tried_refusal db edits ≡ refusal_of_error e)
    → IfErr r (λ e. IsRefusal e (refusal_in_session db (events.Begin edits)))
trial-refused db edits (Ok x) room is = tt
trial-refused db edits (Err e) room is =
    refused_in_session e (refusal_of db (events.Begin edits)) (full_by_repair db (events.Begin edits)) (sym (tried-refused db edits room) ∙ is)

pub trial-repairing : (n : ℕ) (edits : List Edit) (r : Result Database DbError) → IfOk r (λ tried. (state_of tried).phase ≡ Repairing edits n)
    → IfOk r (λ tried. is_repairing (state_of tried).phase ≡ true)
trial-repairing n edits (Ok tried) is = ap is_repairing is
trial-repairing n edits (Err e) is = tt
