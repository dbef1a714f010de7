-- Events one after another: what refuses them, and what they lead to.
use Rattle.std.proofs.Common.{◌≡◌, ℕ, zero, suc, List, [], ◌∷◌, ◌++◌, fold, Option, None, Some, Result, Ok, Err, IfOk, IfErr, refl, sym, ap, subst, ◌∙◌, append_assoc}
use Rattle.std.specs.Option.{option_or}
use Rattle.std.proofs.lemmas.List.Sums.{fold-append}
use Rattle.tt_values.specs.Tables.{Tables}
use Rattle.tt_db.specs.declared.limits.Limits.{Limits}
use Rattle.tt_db.specs.declared.event.Event.{Event}
use Rattle.tt_db.specs.declared.event.Event.TheVariants as events
use Rattle.tt_db.specs.declared.event.Entry.{Entry}
use Rattle.tt_db.specs.declared.outcome.Outcome.{Outcome}
use Rattle.tt_db.specs.declared.errors.DbError.{DbError}
use Rattle.tt_db.specs.State.{State, start, after, refusal, next_state, outcome_of}
use Rattle.tt_db.specs.Database.{Database, state_of}
use Rattle.tt_store.specs.declared.errors.Unreached.{Unreached}
use Rattle.tt_store.specs.declared.errors.Unreached.TheVariants as unreached
use Rattle.tt_store.specs.History.{entries_by}
use Rattle.tt_store.specs.declared.call.Reached.{Reached}
use Rattle.tt_store.specs.Reaching.{IsOneMore, IsInWayOfMore, IsPlanned, IsInWayOfPlan}
use Rattle.tt_store.specs.Calls.{steps, planned, state_after, first_refused, last_outcome, with_events, Reaches, IsInWay}

option_or_assoc : {X : Type 0} (a b c : Option X) → option_or (option_or a b) c ≡ option_or a (option_or b c)
option_or_assoc None b c = refl
option_or_assoc (Some x) b c = refl

pub first_refused-append : (tables : Tables) (limits : Limits) (S : State) (xs ys : List Event)
    → first_refused tables limits S (xs ++ ys) ≡ option_or (first_refused tables limits S xs) (first_refused tables limits (state_after limits S xs) ys)
first_refused-append tables limits S [] ys = refl
first_refused-append tables limits S (x ∷ xs) ys =
    ap (option_or (refusal tables limits S x)) (first_refused-append tables limits (next_state limits S x) xs ys)
    ∙ sym (option_or_assoc (refusal tables limits S x) (first_refused tables limits (next_state limits S x) xs) (first_refused tables limits (state_after limits (next_state limits S x) xs) ys))

pub last_outcome-snoc : (tables : Tables) (limits : Limits) (S : State) (xs : List Event) (e : Event)
    → last_outcome tables limits S (xs ++ e ∷ []) ≡ Some (outcome_of tables (state_after limits S xs) e)
last_outcome-snoc tables limits S [] e = refl
last_outcome-snoc tables limits S (x ∷ []) e = refl
last_outcome-snoc tables limits S (x ∷ y ∷ xs) e = last_outcome-snoc tables limits (next_state limits S x) (y ∷ xs) e

-- the state after entries of a worker
state_after-entries : (limits : Limits) (S : State) (worker : ℕ) (made : List Event)
    → fold (λ S e. next_state limits S e.event) S (entries_by worker made) ≡ state_after limits S made
state_after-entries limits S worker [] = refl
state_after-entries limits S worker (e ∷ made) = state_after-entries limits (next_state limits S e) worker made

pub after-entries : (limits : Limits) (front : List Entry) (worker : ℕ) (made : List Event)
    → after limits (front ++ entries_by worker made) ≡ state_after limits (after limits front) made
after-entries limits front worker made =
    fold-append (λ S e. next_state limits S e.event) start front (entries_by worker made) ∙ state_after-entries limits (after limits front) worker made

pub entries_by-append : (worker : ℕ) (xs ys : List Event) → entries_by worker (xs ++ ys) ≡ entries_by worker xs ++ entries_by worker ys
entries_by-append worker [] ys = refl
entries_by-append worker (x ∷ xs) ys = ap (λ w. record { worker = worker; event = x } ∷ w) (entries_by-append worker xs ys)

-- one step more
pub steps-snoc : (n : ℕ) → steps (suc n) ≡ steps n ++ events.Step ∷ []
steps-snoc zero = refl
steps-snoc (suc n) = ap (λ w. events.Step ∷ w) (steps-snoc n)

-- one event more
next_of_reached : (from : Database) (worker : ℕ) (made : List Event) (e : Event) (to : Database) (last : Outcome)
    → first_refused from.catalog from.limits (state_of from) made ≡ None → Reaches (with_events from worker made) worker (e ∷ []) to last → Reaches from worker (made ++ e ∷ []) to last
next_of_reached from worker made e to last accepted then = record {
  accepted =
      first_refused-append from.catalog from.limits (state_of from) made (e ∷ [])
      ∙ ap (λ r. option_or r (first_refused from.catalog from.limits (state_after from.limits (state_of from) made) (e ∷ []))) accepted
      ∙ ap (λ T. first_refused from.catalog from.limits T (e ∷ [])) (sym (after-entries from.limits from.history worker made))
      ∙ then.accepted;
  db = then.db ∙ (λ i. record from { history = whole i });
  outcome_is =
      last_outcome-snoc from.catalog from.limits (state_of from) made e
      ∙ ap (λ T. Some (outcome_of from.catalog T e)) (sym (after-entries from.limits from.history worker made))
      ∙ then.outcome_is;
}
  where
    whole : (from.history ++ entries_by worker made) ++ entries_by worker (e ∷ []) ≡ from.history ++ entries_by worker (made ++ e ∷ [])
    whole = append_assoc from.history (entries_by worker made) (entries_by worker (e ∷ [])) ∙ ap (λ w. from.history ++ w) (sym (entries_by-append worker made (e ∷ [])))

pub reaches_then : (from : Database) (worker : ℕ) (made : List Event) (mid : Database) (o : Outcome) (e : Event) (to : Database) (last : Outcome)
    → Reaches from worker made mid o → Reaches mid worker (e ∷ []) to last → Reaches from worker (made ++ e ∷ []) to last
reaches_then from worker made mid o e to last first then =
    next_of_reached from worker made e to last first.accepted (subst (λ (m : Database). Reaches m worker (e ∷ []) to last) first.db then)

-- what is in the way of the first events is in the way of all
pub in_way_longer : (from : Database) (xs ys : List Event) (e : Unreached) → IsInWay from xs e → IsInWay from (xs ++ ys) e
in_way_longer from xs ys (unreached.Db refused) h =
    first_refused-append from.catalog from.limits (state_of from) xs ys
    ∙ ap (λ r. option_or r (first_refused from.catalog from.limits (state_after from.limits (state_of from) xs) ys)) h
in_way_longer from xs ys unreached.Memory h = tt

next_in_way : (from : Database) (worker : ℕ) (made : List Event) (e : Event) (rest : List Event) (refused : DbError)
    → first_refused from.catalog from.limits (state_of from) made ≡ None → IsInWay (with_events from worker made) (e ∷ []) (unreached.Db refused)
    → first_refused from.catalog from.limits (state_of from) (made ++ e ∷ rest) ≡ Some refused
next_in_way from worker made e rest refused accepted h =
    first_refused-append from.catalog from.limits (state_of from) made (e ∷ rest)
    ∙ ap (λ r. option_or r (first_refused from.catalog from.limits (state_after from.limits (state_of from) made) (e ∷ rest))) accepted
    ∙ ap (λ T. first_refused from.catalog from.limits T (e ∷ rest)) (sym (after-entries from.limits from.history worker made))
    ∙ in_way_longer (with_events from worker made) (e ∷ []) rest (unreached.Db refused) h

-- what is in the way of the next event is in the way of all
pub in_way_then : (from : Database) (worker : ℕ) (made : List Event) (mid : Database) (o : Outcome) (e : Event) (rest : List Event) (why : Unreached)
    → Reaches from worker made mid o → IsInWay mid (e ∷ []) why → IsInWay from (made ++ e ∷ rest) why
in_way_then from worker made mid o e rest (unreached.Db refused) first h =
    next_in_way from worker made e rest refused first.accepted (subst (λ (m : Database). IsInWay m (e ∷ []) (unreached.Db refused)) first.db h)
in_way_then from worker made mid o e rest unreached.Memory first h = tt

pub one_more : (from : Database) (worker : ℕ) (r : Reached) (e : Event) (next : Reached) → Reaches r.db worker (e ∷ []) next.db next.outcome → IsOneMore from worker (Some r) e next
one_more from worker r e next then made first = reaches_then from worker made r.db r.outcome e next.db next.outcome first then

pub first_more : (from : Database) (worker : ℕ) (e : Event) (next : Reached) → Reaches from worker (e ∷ []) next.db next.outcome → IsOneMore from worker None e next
first_more from worker e next then made none = subst (λ (w : List Event). Reaches from worker (w ++ e ∷ []) next.db next.outcome) (sym none) then

pub in_way_of_more : (from : Database) (worker : ℕ) (r : Reached) (e : Event) (why : Unreached) → IsInWay r.db (e ∷ []) why → IsInWayOfMore from worker (Some r) e why
in_way_of_more from worker r e why h made rest first = in_way_then from worker made r.db r.outcome e rest why first h

pub in_way_of_first : (from : Database) (worker : ℕ) (e : Event) (why : Unreached) → IsInWay from (e ∷ []) why → IsInWayOfMore from worker None e why
in_way_of_first from worker e why h made rest none = subst (λ (w : List Event). IsInWay from (w ++ e ∷ rest) why) (sym none) (in_way_longer from (e ∷ []) rest why h)

-- the same of answers
pub one_more_if : (from : Database) (worker : ℕ) (r : Reached) (e : Event) (x : Result Reached Unreached) → IfOk x (λ n. Reaches r.db worker (e ∷ []) n.db n.outcome) → IfOk x (λ n. IsOneMore from worker (Some r) e n)
one_more_if from worker r e (Ok n) h = one_more from worker r e n h
one_more_if from worker r e (Err why) h = tt

pub in_way_of_more_if : (from : Database) (worker : ℕ) (r : Reached) (e : Event) (x : Result Reached Unreached) → IfErr x (λ why. IsInWay r.db (e ∷ []) why) → IfErr x (λ why. IsInWayOfMore from worker (Some r) e why)
in_way_of_more_if from worker r e (Ok n) h = tt
in_way_of_more_if from worker r e (Err why) h = in_way_of_more from worker r e why h

pub in_way_of_first_if : (from : Database) (worker : ℕ) (e : Event) (x : Result Reached Unreached) → IfErr x (λ why. IsInWay from (e ∷ []) why) → IfErr x (λ why. IsInWayOfMore from worker None e why)
in_way_of_first_if from worker e (Ok n) h = tt
in_way_of_first_if from worker e (Err why) h = in_way_of_first from worker e why h

pub in_way_planned : (from : Database) (count : ℕ) (last : Option Event) (e : Unreached) → IsInWay from (steps count) e → IsInWay from (planned count last) e
in_way_planned from count None e h = h
in_way_planned from count (Some event) e h = in_way_longer from (steps count) (event ∷ []) e h

pub one_more_planned : (from : Database) (worker : ℕ) (stepped : Option Reached) (event : Event) (r : Reached) → IsOneMore from worker stepped event r → IsPlanned from worker stepped (Some event) (Some r)
one_more_planned from worker stepped event r h count first = h (steps count) first

pub in_way_of_last : (from : Database) (worker : ℕ) (stepped : Option Reached) (event : Event) (why : Unreached) → IsInWayOfMore from worker stepped event why → IsInWayOfPlan from worker stepped (Some event) why
in_way_of_last from worker stepped event why h count first = h (steps count) [] first
