-- Drafts that are published: what becomes of their worker.
use Rattle.std.proofs.Common.{◌≡◌, ℕ, zero, suc, ◌+◌, ◌-◌, ◌<◌, ◌≤◌, ◌==◌, Bool, true, false, if◌then◌else◌, List, [], ◌∷◌, ◌++◌, fold, drop, length, Option, None, Some, Result, Ok, Err, refl, sym, ap, subst, ◌∙◌, inl, inr, ⊎_elim, arith, append_assoc, length-append}
use Rattle.std.proofs.lemmas.List.{append-nil, drop_at}
use Rattle.std.proofs.lemmas.List.Sums.{fold-append}
use Rattle.std.proofs.lemmas.Bool.Decides.{nat_tests}
use mathlib.Core.List.{IsPrefix}
use Rattle.tt_values.specs.Tables.{Tables}
use Rattle.tt_db.specs.declared.limits.Limits.{Limits}
use Rattle.tt_db.specs.declared.event.Event.{Event}
use Rattle.tt_db.specs.declared.event.Entry.{Entry}
use Rattle.tt_db.specs.declared.outcome.Outcome.{Outcome}
use Rattle.tt_db.specs.State.{after}
use Rattle.tt_db.specs.Database.{Database}
use Rattle.tt_store.specs.declared.call.Draft.{Draft}
use Rattle.tt_store.specs.declared.call.Call.{Call}
use Rattle.tt_store.specs.declared.store.Attempt.{Attempt}
use Rattle.tt_store.specs.declared.store.Attempt.TheVariants as attempts
use Rattle.tt_store.specs.declared.errors.Unreached.{Unreached}
use Rattle.tt_store.specs.declared.errors.Unreached.TheVariants as unreached
use Rattle.tt_store.specs.declared.errors.StoreError.{StoreError}
use Rattle.tt_store.specs.declared.errors.StoreError.TheVariants as errors
use Rattle.tt_store.specs.History.{entries_by, places_from, places_of}
use Rattle.tt_store.specs.Calls.{events_of, first_refused, last_outcome, numbers_from, IsInWay}
use Rattle.tt_store.specs.Workers.{WorkerState, Looks, IsAmong, Publishes, IsCause, IsRefused, own_entries, database_at}
use Rattle.tt_store.specs.Drafts.{IsMadeBy, Adds, IsDraft, error_of, CommitsOrRetries, Tries}
use Rattle.tt_store.specs.Own.{entries_at}
use Rattle.tt_store.proofs.Prefixes.{prefix_trans, prefix_length}
use Rattle.tt_store.proofs.OwnLemmas.{own_added}
use Rattle.tt_store.proofs.WorkerLemmas.{looks_trans, places_from-append}

pub length-entries_by : (worker : ℕ) (made : List Event) → length (entries_by worker made) ≡ length made
length-entries_by worker [] = refl
length-entries_by worker (e ∷ made) = ap suc (length-entries_by worker made)

pub length-numbers_from : (first n : ℕ) → length (numbers_from first n) ≡ n
length-numbers_from first zero = refl
length-numbers_from first (suc n) = ap suc (length-numbers_from (first + 1) n)

-- how much longer a history is than its beginning
longer_by : (front : List Entry) (worker : ℕ) (made : List Event) (history : List Entry) → history ≡ front ++ entries_by worker made → length history - length front ≡ length made
longer_by front worker made history is = omega (arith, ap length is, length-append front (entries_by worker made), length-entries_by worker made)

own_first : (b : Bool) (place : ℕ) (xs ys : List ℕ) → b ≡ true → xs ≡ ys → (if b then place ∷ xs else xs) ≡ place ∷ ys
own_first true place xs ys is h = ap (λ w. place ∷ w) h
own_first false place xs ys is h = absurd (cc is)

-- the places of a worker's own entries are all of them
places_of_own : (place worker : ℕ) (made : List Event) → places_from place worker (entries_by worker made) ≡ numbers_from place (length made)
places_of_own place worker [] = refl
places_of_own place worker (e ∷ made) =
    own_first (worker == worker) place (places_from (place + 1) worker (entries_by worker made)) (numbers_from (place + 1) (length made))
    (let same : (worker == worker) ≡ true = grind (arith, nat_tests) in same) (places_of_own (place + 1) worker made)

among_self : (zs : List ℕ) → IsAmong zs zs
among_self [] = tt
among_self (z ∷ zs) = inl (refl, among_self zs)

among_behind : (zs ys : List ℕ) → IsAmong zs (ys ++ zs)
among_behind [] ys = tt
among_behind (z ∷ zs) [] = among_self (z ∷ zs)
among_behind (z ∷ zs) (y ∷ ys) = inr (among_behind (z ∷ zs) ys)

among_both : (xs ys zs : List ℕ) → IsAmong xs ys → IsAmong (xs ++ zs) (ys ++ zs)
among_both [] ys zs h = among_behind zs ys
among_both (x ∷ xs) [] zs h = absurd h
among_both (x ∷ xs) (y ∷ ys) zs h =
    ⊎_elim (λ (t : (x ≡ y) × IsAmong xs ys). inl (t.0, among_both xs ys zs t.1)) (λ (t : IsAmong (x ∷ xs) ys). inr (among_both (x ∷ xs) ys zs t)) h

-- with the places of what a worker adds, its places are still among those of its entries
pub among_added : (own : List ℕ) (worker : ℕ) (front history : List Entry) (made : List Event) → history ≡ front ++ entries_by worker made → IsAmong own (places_of worker front)
    → IsAmong (own ++ numbers_from (length front + 1) (length history - length front)) (places_of worker history)
among_added own worker front history made is h =
    let count : length history - length front ≡ length made = longer_by front worker made history is in
    let first : 1 + length front ≡ length front + 1 = omega arith in
    let all : places_of worker history ≡ places_of worker front ++ numbers_from (length front + 1) (length history - length front) =
    ap (places_of worker) is ∙ places_from-append 1 worker front (entries_by worker made)
    ∙ ap (λ w. places_of worker front ++ w) (places_of_own (1 + length front) worker made ∙ (λ i. numbers_from (first i) (sym count i))) in
    subst (IsAmong (own ++ numbers_from (length front + 1) (length history - length front))) (sym all)
    (among_both own (places_of worker front) (numbers_from (length front + 1) (length history - length front)) h)

-- a worker adds the places of what it makes, and with them its entries
pub adds_places : (old new : WorkerState) (history : List Entry) → IsMadeBy old history → IsAmong old.own (places_of old.number old.seen) → new.number ≡ old.number → new.seen ≡ history
    → new.own ≡ old.own ++ numbers_from (length old.seen + 1) (length history - length old.seen) → Adds old new history
adds_places old new history made among number seen own = record {
  number = number;
  seen = seen;
  own = own;
  entries = (λ i. entries_at (seen i) (own i)) ∙ own_added old.own old.number old.seen history (entries_by old.number made.0) made.1 among;
}

-- what is published is what the call's events lead to
pub publishes_draft : (tables : Tables) (limits : Limits) (call : Call) (old mid new : WorkerState) (d : Draft) → Looks old mid → IsDraft tables limits call mid (Some d)
    → Adds mid new d.for_worker.history → Publishes tables limits call old new (Some d.outcome)
publishes_draft tables limits call old mid new d looks draft adds = record {
  front = mid.seen;
  later = looks.seen;
  accepted = draft.accepted;
  outcome_is = sym draft.outcome_is;
  number = adds.number ∙ looks.number;
  seen = adds.seen ∙ history ∙ ap (λ n. mid.seen ++ entries_by n (events_of call (after limits mid.seen))) looks.number;
  own = adds.own ∙ (λ i. looks.own i ++ numbers_from (length mid.seen + 1) (longer_by mid.seen mid.number (events_of call (after limits mid.seen)) d.for_worker.history history i));
  entries = adds.entries ∙ (λ i. looks.entries i ++ added i);
}
  where
    history : d.for_worker.history ≡ mid.seen ++ entries_by mid.number (events_of call (after limits mid.seen))
    history = ap (λ (db : Database). db.history) draft.db

    added : drop (length mid.seen) d.for_worker.history ≡ entries_by old.number (events_of call (after limits mid.seen))
    added =
        ap (drop (length mid.seen)) history
        ∙ drop_at mid.seen (entries_by mid.number (events_of call (after limits mid.seen))) (length mid.seen) refl
        ∙ ap (λ n. entries_by n (events_of call (after limits mid.seen))) looks.number

-- without events nothing is published
pub publishes_nothing : (tables : Tables) (limits : Limits) (call : Call) (old new : WorkerState) → Looks old new → events_of call (after limits new.seen) ≡ []
    → Publishes tables limits call old new None
publishes_nothing tables limits call old new looks none = record {
  front = new.seen;
  later = looks.seen;
  accepted = ap (first_refused tables limits (after limits new.seen)) none;
  outcome_is = sym (ap (last_outcome tables limits (after limits new.seen)) none);
  number = looks.number;
  seen = sym (append-nil new.seen) ∙ ap (λ made. new.seen ++ entries_by old.number made) (sym none);
  own = looks.own ∙ sym (append-nil old.own) ∙ ap (λ (made : List Event). old.own ++ numbers_from (length new.seen + 1) (length made)) (sym none);
  entries = looks.entries ∙ sym (append-nil (own_entries old)) ∙ ap (λ made. own_entries old ++ entries_by old.number made) (sym none);
}

-- what is in the way of the events refuses the call
pub refused_draft : (tables : Tables) (limits : Limits) (call : Call) (old new : WorkerState) (e : Unreached) → Looks old new
    → IsInWay (database_at tables limits new.seen) (events_of call (after limits new.seen)) e → IsRefused tables limits call old new (error_of e)
refused_draft tables limits call old new (unreached.Db e) looks h = record { looks = looks; cause = h }
refused_draft tables limits call old new unreached.Memory looks h = record { looks = looks; cause = tt }

-- a try that publishes a draft, or comes too late with it
pub tries_committed : (tables : Tables) (limits : Limits) (call : Call) (old mid new : WorkerState) (d : Draft) (result : Result Attempt StoreError) → Looks old mid
    → IsDraft tables limits call mid (Some d) → CommitsOrRetries mid new d.for_worker d.outcome result → Tries tables limits call old new result
tries_committed tables limits call old mid new d (Ok (attempts.Done o)) looks draft h =
    subst (Publishes tables limits call old new) (sym h.0) (publishes_draft tables limits call old mid new d looks draft h.1)
tries_committed tables limits call old mid new d (Ok attempts.Again) looks draft h = subst (Looks old) (sym h) looks
tries_committed tables limits call old mid new d (Err e) looks draft h = record {
  looks = subst (Looks old) (sym h.1) looks;
  cause = subst (IsCause tables limits call old.seen new.seen) (sym h.0) tt;
}

-- what was seen before counts too
pub publishes_later : (tables : Tables) (limits : Limits) (call : Call) (a b c : WorkerState) (o : Option Outcome) → Looks a b → Publishes tables limits call b c o → Publishes tables limits call a c o
publishes_later tables limits call a b c o looks is = record {
  front = is.front;
  later = prefix_trans a.seen b.seen is.front looks.seen is.later;
  accepted = is.accepted;
  outcome_is = is.outcome_is;
  number = is.number ∙ looks.number;
  seen = is.seen ∙ ap (λ n. is.front ++ entries_by n (events_of call (after limits is.front))) looks.number;
  own = is.own ∙ ap (λ own. own ++ numbers_from (length is.front + 1) (length (events_of call (after limits is.front)))) looks.own;
  entries = is.entries ∙ (λ i. looks.entries i ++ entries_by (looks.number i) (events_of call (after limits is.front)));
}

cause_later : (tables : Tables) (limits : Limits) (call : Call) (a b seen : List Entry) (e : StoreError) → IsPrefix a b → IsCause tables limits call b seen e → IsCause tables limits call a seen e
cause_later tables limits call a b seen (errors.Db e) p h = h
cause_later tables limits call a b seen (errors.Raced read told) p h = (h.0, h.1, omega (arith, prefix_length a b p, h.2))
cause_later tables limits call a b seen errors.NoReading p h = tt
cause_later tables limits call a b seen errors.Memory p h = tt

pub refused_later : (tables : Tables) (limits : Limits) (call : Call) (a b c : WorkerState) (e : StoreError) → Looks a b → IsRefused tables limits call b c e → IsRefused tables limits call a c e
refused_later tables limits call a b c e looks is = record {
  looks = looks_trans a b c looks is.looks;
  cause = cause_later tables limits call a.seen b.seen c.seen e looks.seen is.cause;
}

-- the next number is behind those before it
pub numbers_next : (items : List ℕ) (place to : ℕ) → place < to → (items ++ (place + 1) ∷ []) ++ numbers_from (place + 1 + 1) (to - (place + 1)) ≡ items ++ numbers_from (place + 1) (to - place)
numbers_next items place to h =
    let left : to - place ≡ suc (to - (place + 1)) = omega arith in
    append_assoc items ((place + 1) ∷ []) (numbers_from (place + 1 + 1) (to - (place + 1))) ∙ sym (ap (λ n. items ++ numbers_from (place + 1) n) left)

pub numbers_end : (items : List ℕ) (place to : ℕ) → to ≤ place → items ++ numbers_from (place + 1) (to - place) ≡ items
numbers_end items place to h =
    let none : to - place ≡ 0 = omega arith in ap (λ n. items ++ numbers_from (place + 1) n) none ∙ append-nil items

-- of what replaces one another the last one stays
pub last_stays : {X : Type 0} (f : X → X → X) → ((s x : X) → f s x ≡ x) → (x : X) (before : List X) (last : X) → fold f x (before ++ last ∷ []) ≡ last
last_stays f replaces x before last = fold-append f x before (last ∷ []) ∙ replaces (fold f x before) last

-- so what is published is what was appended last
pub last_snapshot : {X : Type 0} (f : X → X → X) → ((s x : X) → f s x ≡ x) → (x next last : X) (before after : List X) → next ≡ fold f x after → after ≡ before ++ last ∷ [] → next ≡ last
last_snapshot f replaces x next last before after is appended = is ∙ ap (fold f x) appended ∙ last_stays f replaces x before last
