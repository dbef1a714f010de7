-- A database that has come from an earlier one by further entries, and one that is made again.
use Rattle.std.proofs.Common.{◌≡◌, ℕ, ◌+◌, ◌≤◌, Bool, true, false, IfSome, OnOk, OnErr, is_err, List, [], ◌∷◌, ◌++◌, length, drop, map, replicate, append-nil, append_assoc, length-append, Option, None, Some, Result, Ok, Err, slice_get, add-one, refl, sym, ap, ◌∙◌, subst, arith}
use Rattle.tt_db.proofs.ClosedLemmas.{drop_at_item}
use Rattle.tt_values.specs.declared.action.Action.{Action}
use Rattle.tt_db.specs.declared.event.Event.{Event}
use Rattle.tt_db.specs.declared.event.Event.TheVariants as events
use Rattle.tt_db.specs.declared.event.Entry.{Entry}
use Rattle.tt_db.specs.declared.errors.DbError.{DbError}
use Rattle.tt_db.specs.State.{unless_repairing}
use Rattle.tt_db.specs.Database.{Database, now_in, repair_worker_of, with_entry, nth_item}
use Rattle.tt_grammar.specs.declared.fault.DocFault.{DocFault}
use Rattle.tt_requests.specs.declared.request.Command.{Command}
use Rattle.tt_requests.specs.declared.request.Command.TheVariants as commands
use Rattle.tt_requests.specs.declared.request.Request.{Request}
use Rattle.tt_requests.specs.declared.told.ToldTime.{ToldTime}
use Rattle.tt_answers.specs.declared.answer.Refusal.{Refusal}
use Rattle.tt_commands.specs.Answers.{Answered}
use Rattle.tt_commands.specs.Commands.{written, carried_out, moved_to, unless_moved}
use Rattle.tt_requests.specs.Asked.{is_forget, asks_to_forget, repair_worker_told}
use Rattle.tt_commands.specs.Repairing.{entry_by, unless_refused, other_worker, unless_of_another, with_event, with_steps, with_all_steps}
use Rattle.tt_commands.specs.Room.{refusal_in_session}
use Rattle.tt_commands.specs.Changes.{forgotten_by}
use Rattle.tt_commands.specs.Invariants.{IsOpenSession}
use Rattle.tt_commands.specs.Session.{OpenSession, Forgetting, counted, state_in, with_database}
use Rattle.tt_commands.specs.ToldRequests.{missing_if_idle, unless_missing}
use Rattle.tt_requests.specs.ToldEdits.{own_edit}
use Rattle.tt_session.specs.declared.session.Session.TheVariants.{Open}
use Rattle.tt_session.specs.Recovery.{with_entries, ComesFrom, recovered_session, IsRecoverable}
use Rattle.tt_session.specs.Run.{turn_by_request}
use Rattle.tt_session.proofs.BaseLemmas.{Base, base_of, outcome_base, request_base, carried-stays, request-next}
use Rattle.tt_session.proofs.TogetherLemmas.{open-same}

-- ---- databases with further entries

pub comes-self : (db : Database) → ComesFrom db db
comes-self db = ([], λ i. record db { history = sym (append-nil db.history) i })

pub comes-trans : (a b c : Database) → ComesFrom a b → ComesFrom b c → ComesFrom a c
comes-trans a b c p q =
    (p.0 ++ q.0, q.1 ∙ ap (λ (d : Database). with_entries d q.0) p.1 ∙ (λ i. record a { history = append_assoc a.history p.0 q.0 i }))

event-comes : (db : Database) (worker : ℕ) (event : Event) → ComesFrom db (with_event db worker event)
event-comes db worker event = (entry_by worker event ∷ [], refl)

steps-come : (db : Database) (worker count : ℕ) → ComesFrom db (with_steps db worker count)
steps-come db worker count = (replicate count (entry_by worker events.Step), refl)

-- ---- what a request makes of the database, unless it is to forget

-- the new database has come from the old one
abbrev Comes : Base → Base → Type 0
Comes base new = ComesFrom base.database new.database

refused-comes : (base : Base) (refusal : Option DbError) (a : Answered) → Comes base (base_of a.session) → Comes base (outcome_base base (unless_refused refusal a))
refused-comes base None a comes = comes
refused-comes base (Some error) a comes = comes-self base.database

write-comes : (session : OpenSession) (worker : ℕ) (action : Action) (stamp : Option ℕ) → Comes (base_of session) (base_of (written session worker action stamp).session)
write-comes session worker action None = event-comes session.database worker (events.Write action)
write-comes session worker action (Some s) = event-comes session.database worker (events.Write action)

missing-comes : (base : Base) (missing : Option ToldTime) (outcome : Result Answered Refusal) → Comes base (outcome_base base outcome) → Comes base (outcome_base base (unless_missing missing outcome))
missing-comes base None outcome comes = comes
missing-comes base (Some slot) outcome comes = comes-self base.database

moved-comes : (base : Base) (now : Option ℕ) (outcome : Result Answered Refusal) → Comes base (outcome_base base outcome) → Comes base (outcome_base base (unless_moved now outcome))
moved-comes base None outcome comes = comes
moved-comes base (Some now) outcome comes = comes-self base.database

another-comes : (base : Base) (worker : Option ℕ) (outcome : Result Answered Refusal) → Comes base (outcome_base base outcome) → Comes base (outcome_base base (unless_of_another worker outcome))
another-comes base None outcome comes = comes
another-comes base (Some worker) outcome comes = comes-self base.database

stays-comes : (base new : Base) → new ≡ base → Comes base new
stays-comes base new is = subst (Comes base) (sym is) (comes-self base.database)

carried-comes : (session : OpenSession) (worker : ℕ) (command : Command) → is_forget command ≡ false → Comes (base_of session) (outcome_base (base_of session) (carried_out session worker command))
carried-comes session worker (commands.Write action stamp) other = refused-comes (base_of session) (refusal_in_session session.database (events.Write action)) _ (write-comes session worker action stamp)
carried-comes session worker (commands.Read q at generation page) other = stays-comes (base_of session) _ (carried-stays session worker (commands.Read q at generation page) refl)
carried-comes session worker (commands.Preview q page) other = stays-comes (base_of session) _ (carried-stays session worker (commands.Preview q page) refl)
carried-comes session worker (commands.Begin told) other =
    let event = events.Begin (map (own_edit session.numbering) told.edits) in
    let begun = with_event session.database worker event in
    missing-comes (base_of session) (missing_if_idle session told.edits) _
    (refused-comes (base_of session) (refusal_in_session session.database event) _ (comes-trans session.database begun _ (event-comes session.database worker event) (steps-come begun worker _)))
carried-comes session worker (commands.Step most told) other = refused-comes (base_of session) (unless_repairing (state_in session).phase) _ (steps-come session.database worker _)
carried-comes session worker (commands.Finish told) other =
    let all = with_all_steps session.database worker in
    refused-comes (base_of session) (unless_repairing (state_in session).phase) _ (comes-trans session.database all _ (steps-come session.database worker _) (event-comes all worker events.Switch))
carried-comes session worker (commands.Abort told) other = refused-comes (base_of session) (unless_repairing (state_in session).phase) _ (event-comes session.database worker events.Abort)
carried-comes session worker commands.Status other = comes-self session.database
carried-comes session worker (commands.Slots from to filter) other = comes-self session.database
carried-comes session worker (commands.Changes page) other = comes-self session.database
carried-comes session worker (commands.NextChanges page) other = refused-comes (base_of session) (unless_repairing (state_in session).phase) _ (comes-self session.database)
carried-comes session worker commands.Tables other = comes-self session.database
carried-comes session worker (commands.Why generation page) other = stays-comes (base_of session) _ (carried-stays session worker (commands.Why generation page) refl)
carried-comes session worker (commands.Diff generation page) other = stays-comes (base_of session) _ (carried-stays session worker (commands.Diff generation page) refl)
carried-comes session worker (commands.Would told) other = stays-comes (base_of session) _ (carried-stays session worker (commands.Would told) refl)
carried-comes session worker (commands.Forget time) other = cc

base-comes : (session : OpenSession) (asked : Result Request DocFault) → asks_to_forget asked ≡ false → Comes (base_of session) (request_base session asked)
base-comes session (Err fault) other = comes-self session.database
base-comes session (Ok request) other =
    moved-comes (base_of session) (moved_to session.numbering (now_in session.database) request.expected) _
    (another-comes (base_of session) (other_worker (repair_worker_told request.command) (repair_worker_of session.database)) _ (carried-comes session request.worker request.command other))

pub request-comes : (session new : OpenSession) (asked : Result Request DocFault) → asks_to_forget asked ≡ false → Open new ≡ (turn_by_request session asked).session → ComesFrom session.database new.database
request-comes session new asked other is =
    let n = request-next session asked in
    subst (λ (b : Base). ComesFrom session.database b.database) (sym (ap base_of (open-same new n.next (is ∙ n.is)) ∙ n.base)) (base-comes session asked other)

-- ---- entries that are added one after another

-- an entry is added to others
pub next-added : (entries all : List Entry) (h : List Entry) (place : ℕ) (found : Option Entry) (e : Entry) → found ≡ nth_item h (place + 1) → found ≡ Some e
    → entries ++ drop place h ≡ all → (entries ++ e ∷ []) ++ drop (place + 1) h ≡ all
next-added entries all h place found e at is so_far =
    let there : slice_get h place ≡ Some e = ap (nth_item h) (sym (add-one place)) ∙ sym at ∙ is in
    append_assoc entries (e ∷ []) (drop (place + 1) h) ∙ ap (λ l. entries ++ l) (sym (drop_at_item h place e there)) ∙ so_far

-- an entry is carried out behind others
pub next-carried : (db next all : Database) (entries : List Entry) (index : ℕ) (e : Entry) → slice_get entries index ≡ Some e → next ≡ with_entry db e
    → with_entries db (drop index entries) ≡ all → with_entries next (drop (index + 1) entries) ≡ all
next-carried db next all entries index e there is so_far =
    ap (λ (d : Database). with_entries d (drop (index + 1) entries)) is
    ∙ (λ i. record db { history = (append_assoc db.history (e ∷ []) (drop (index + 1) entries) ∙ ap (λ l. db.history ++ l) (sym (drop_at_item entries index e there))) i })
    ∙ so_far

-- ---- a session whose database may be lost

-- a session whose database is there is itself
pub recovered_there : (session : OpenSession) (checkpoint : Option Database) (is_lost : Bool) → is_lost ≡ false → recovered_session session checkpoint is_lost ≡ session
recovered_there session None is_lost there = refl
recovered_there session (Some db) true there = cc
recovered_there session (Some db) false there = refl

-- a checkpoint leads to an earlier database of it
pub earlier_there : (session : OpenSession) (checkpoint : Option Database) (is_lost : Bool) → is_lost ≡ false → IsRecoverable session checkpoint is_lost → IfSome checkpoint (λ db. ComesFrom db session.database)
earlier_there session None is_lost there is = tt
earlier_there session (Some db) true there is = cc
earlier_there session (Some db) false there is = is

pub recoverable_there : (session : OpenSession) (checkpoint : Option Database) (is_lost : Bool) → is_lost ≡ false → IfSome checkpoint (λ db. ComesFrom db session.database) → IsRecoverable session checkpoint is_lost
recoverable_there session None is_lost there is = there
recoverable_there session (Some db) true there is = cc
recoverable_there session (Some db) false there is = is

-- and of the session that it becomes
pub earlier_then : (session new : OpenSession) (checkpoint : Option Database) → IfSome checkpoint (λ db. ComesFrom db session.database) → ComesFrom session.database new.database → IfSome checkpoint (λ db. ComesFrom db new.database)
earlier_then session new None is comes = tt
earlier_then session new (Some db) is comes = comes-trans db session.database new.database is comes

pub recoverable_then : (session new : OpenSession) (checkpoint : Option Database) (is_lost : Bool) → is_lost ≡ false → IsRecoverable session checkpoint is_lost → ComesFrom session.database new.database → IsRecoverable new checkpoint is_lost
recoverable_then session new checkpoint is_lost there is comes =
    recoverable_there new checkpoint is_lost there (earlier_then session new checkpoint (earlier_there session checkpoint is_lost there is) comes)

-- the number of calls is another
pub recoverable_calls : (session : OpenSession) (calls : ℕ) (checkpoint : Option Database) (is_lost : Bool) → IsRecoverable session checkpoint is_lost → IsRecoverable (record session { calls = calls }) checkpoint is_lost
recoverable_calls session calls None is_lost is = is
recoverable_calls session calls (Some db) true is = is
recoverable_calls session calls (Some db) false is = is

pub recovered_calls : (session : OpenSession) (calls : ℕ) (checkpoint : Option Database) (is_lost : Bool) → recovered_session (record session { calls = calls }) checkpoint is_lost ≡ record (recovered_session session checkpoint is_lost) { calls = calls }
recovered_calls session calls None is_lost = refl
recovered_calls session calls (Some db) true = refl
recovered_calls session calls (Some db) false = refl

pub calls_of_recovered : (session : OpenSession) (checkpoint : Option Database) (is_lost : Bool) → (recovered_session session checkpoint is_lost).calls ≡ session.calls
calls_of_recovered session None is_lost = refl
calls_of_recovered session (Some db) true = refl
calls_of_recovered session (Some db) false = refl

pub most_of_recovered : (session : OpenSession) (checkpoint : Option Database) (is_lost : Bool) → (recovered_session session checkpoint is_lost).most_records ≡ session.most_records
most_of_recovered session None is_lost = refl
most_of_recovered session (Some db) true = refl
most_of_recovered session (Some db) false = refl

-- what goes on behind a time has another database
pub forgotten_recovered : (session : OpenSession) (f : Forgetting) (checkpoint : Option Database) (is_lost : Bool) → forgotten_by (recovered_session session checkpoint is_lost) f ≡ forgotten_by session f
forgotten_recovered session f None is_lost = refl
forgotten_recovered session f (Some db) true = refl
forgotten_recovered session f (Some db) false = refl

-- a checkpoint that leads to the database before a request is one behind it, too, or the session is made again from it
pub recoverable_behind : {A E : Type 0} (session new : OpenSession) (checkpoint : Option Database) (is_lost : Bool) (asked : Result Request DocFault) (result : Result A E)
    → checkpoint ≡ Some session.database → IsOpenSession session → asks_to_forget asked ≡ false → OnOk result (Open new ≡ (turn_by_request (counted session) asked).session)
    → OnErr result (new ≡ with_database session new.database) → is_lost ≡ is_err result → IsRecoverable new checkpoint is_lost
recoverable_behind session new checkpoint is_lost asked (Ok a) at sound other done rest lost =
    recoverable_there new checkpoint is_lost lost
    (subst (λ (k : Option Database). IfSome k (λ db. ComesFrom db new.database)) (sym at) (request-comes (counted session) new asked other done))
recoverable_behind session new checkpoint is_lost asked (Err e) at sound other done rest lost =
    let whole : with_database new session.database ≡ session = ap (λ (s : OpenSession). with_database s session.database) rest in
    subst (λ (k : Option Database). IsRecoverable new k is_lost) (sym at) (subst (IsRecoverable new (Some session.database)) (sym lost) (subst IsOpenSession (sym whole) sound))

-- a database has all entries that lead to an earlier one
pub entries-fit : (db now : Database) (entries : List Entry) → ComesFrom (with_entries db entries) now → length db.history + length entries ≤ length now.history
entries-fit db now entries p = omega (arith, length-append db.history entries, ap (λ (d : Database). length d.history) p.1, length-append (db.history ++ entries) p.0)
