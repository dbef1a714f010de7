-- Calls whose replies have changed stand somewhere.
use Rattle.std.proofs.Common.{◌≡◌, ℕ, zero, suc, ◌+◌, ◌-◌, cond, Bool, true, false, List, [], ◌∷◌, ◌++◌, length, slice_get, All, IsSome, Option, Some, None, refl, sym, ap, subst, ◌∙◌, arith, length-append, append_assoc}
use Rattle.std.specs.Prelude.{is_some, option_and_then}
use Rattle.std.specs.List.{flat_map}
use Rattle.std.proofs.lemmas.List.Elements.{All-nil, All-cons, All-append}
use Rattle.tt_values.specs.declared.reply.Reply.{Reply}
use Rattle.tt_values.specs.Tables.{Tables}
use Rattle.tt_db.specs.State.{State}
use Rattle.tt_records.specs.declared.record.Record.{Record}
use Rattle.tt_records.specs.declared.record.What.{What}
use Rattle.tt_records.specs.declared.record.What.TheVariants as whats
use Rattle.tt_records.specs.declared.changed.Changed.{Changed}
use Rattle.tt_records.specs.declared.changed.After.{After}
use Rattle.tt_records.specs.Changes.{replies_before, answered_now, answered_next, is_still, change_to, change_of, next_change_of, as_list}
use Rattle.tt_answers.specs.declared.answer.Place.{Place}
use Rattle.tt_answers.specs.AnswerText.{place_of}
use Rattle.tt_workload.specs.JsonReport.{place_of_call}
use Rattle.tt_workload.specs.Laws.{AreFrom, Stands, ChangedCallsStand, CallsToChangeStand}

-- a change is that of its call
changed-call : (call : ℕ) (before : List Reply) (after : After) (c : Changed) → change_to call before after ≡ Some c → c.call ≡ call
changed-call call before after c e = by (is_still before after) e
  where
    by : (same : Bool) → cond same None (Some (record { call = call; before = before; after = after })) ≡ Some c → c.call ≡ call
    by true f = absurd (cc)
    by false f = let told : record { call = call; before = before; after = after } ≡ c = cc in ap (λ (d : Changed). d.call) (sym told)

answered-call : (call : ℕ) (before : List Reply) (answer : Option After) (c : Changed) → option_and_then (change_to call before) answer ≡ Some c → c.call ≡ call
answered-call call before None c e = absurd (cc)
answered-call call before (Some after) c e = changed-call call before after c e

-- a record has a change only where its call stands somewhere
abbrev IsOfStanding : (Record → Option Changed) → Type 0
IsOfStanding change = (r : Record) (c : Changed) → change r ≡ Some c → (c.call ≡ r.call) × IsSome (place_of r.what)

change-stands : (tables : Tables) (S : State) → IsOfStanding (change_of tables S)
change-stands tables S r c e = by r.what e
  where
    by : (what : What) → option_and_then (change_to r.call (replies_before what)) (answered_now tables S what) ≡ Some c → (c.call ≡ r.call) × IsSome (place_of what)
    by (whats.Write slot replies) f = (answered-call r.call replies (answered_now tables S (whats.Write slot replies)) c f, refl)
    by (whats.Read select time reply) f = (answered-call r.call (reply ∷ []) (answered_now tables S (whats.Read select time reply)) c f, refl)
    by (whats.Preview done reply) f = absurd (cc)
    by (whats.Later now) f = absurd (cc)
    by whats.NotRepairing f = absurd (cc)

next_change-stands : (tables : Tables) (S : State) → IsOfStanding (next_change_of tables S)
next_change-stands tables S r c e = by r.what e
  where
    by : (what : What) → option_and_then (change_to r.call (replies_before what)) (answered_next tables S what) ≡ Some c → (c.call ≡ r.call) × IsSome (place_of what)
    by (whats.Write slot replies) f = (answered-call r.call replies (answered_next tables S (whats.Write slot replies)) c f, refl)
    by (whats.Read select time reply) f = (answered-call r.call (reply ∷ []) (answered_next tables S (whats.Read select time reply)) c f, refl)
    by (whats.Preview done reply) f = absurd (cc)
    by (whats.Later now) f = absurd (cc)
    by whats.NotRepairing f = absurd (cc)

-- the record behind earlier ones
behind : (earlier rest : List Record) (r : Record) → slice_get (earlier ++ r ∷ rest) (length earlier) ≡ Some r
behind [] rest r = refl
behind (e ∷ earlier) rest r = behind earlier rest r

stands : (earlier rest : List Record) (r : Record) (c : Changed) → r.call ≡ length earlier + 1 → c.call ≡ r.call → IsSome (place_of r.what)
    → Stands (earlier ++ r ∷ rest) c
stands earlier rest r c number same at =
    let position : c.call - 1 ≡ length earlier = omega (arith, number, same) in
    let told : place_of_call (earlier ++ r ∷ rest) c.call ≡ place_of r.what =
    ap (λ n. option_and_then (λ (s : Record). place_of s.what) (slice_get (earlier ++ r ∷ rest) n)) position
    ∙ ap (option_and_then (λ (s : Record). place_of s.what)) (behind earlier rest r) in
    subst (λ (o : Option Place). IsSome o) (sym told) at

-- the changes of the records behind earlier ones
all-stand : (change : Record → Option Changed) → IsOfStanding change → (earlier rest : List Record) → AreFrom (length earlier + 1) rest
    → All (Stands (earlier ++ rest)) (flat_map (λ r. as_list (change r)) rest)
all-stand change of earlier [] numbers = All-nil (Stands (earlier ++ []))
all-stand change of earlier (r ∷ rest) numbers =
    let all : List Record = earlier ++ r ∷ rest in
    let more : length (earlier ++ r ∷ []) + 1 ≡ length earlier + 1 + 1 = omega (arith, length-append earlier (r ∷ [])) in
    let others : All (Stands all) (flat_map (λ s. as_list (change s)) rest) =
    subst (λ (rs : List Record). All (Stands rs) (flat_map (λ s. as_list (change s)) rest)) (append_assoc earlier (r ∷ []) rest)
    (all-stand change of (earlier ++ r ∷ []) rest (subst (λ n. AreFrom n rest) (sym more) numbers.1)) in
    All-append (Stands all) (as_list (change r)) (flat_map (λ s. as_list (change s)) rest) (first (change r) refl) others
  where
    first : (o : Option Changed) → change r ≡ o → All (Stands (earlier ++ r ∷ rest)) (as_list o)
    first None is = All-nil (Stands (earlier ++ r ∷ rest))
    first (Some c) is =
        let at = of r c is in
        All-cons (Stands (earlier ++ r ∷ rest)) c [] (stands earlier rest r c numbers.0 at.0 at.1) (All-nil (Stands (earlier ++ r ∷ rest)))

pub changed_calls_stand : ChangedCallsStand
changed_calls_stand tables S records numbers = all-stand (change_of tables S) (change-stands tables S) [] records numbers

pub calls_to_change_stand : CallsToChangeStand
calls_to_change_stand tables S records numbers = all-stand (next_change_of tables S) (next_change-stands tables S) [] records numbers
