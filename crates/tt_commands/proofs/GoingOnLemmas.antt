-- An open session goes on as one, whatever it is asked.
use Rattle.std.proofs.Common.{◌≡◌, ℕ, ◌+◌, ◌-◌, ◌≤◌, min, Bool, true, false, cond, map, List, [], ◌∷◌, ◌++◌, length, Option, None, Some, Result, Ok, Err, OnOk, OnErr, IfErr, ◌≢◌, refl, sym, ap, subst, ◌∙◌, arith, length-drop}
use Rattle.std.specs.Option.{option_or, option_map, unwrap_or}
use Rattle.tt_values.specs.declared.action.Action.{Action}
use Rattle.tt_values.specs.declared.statement.Select.{Select}
use Rattle.tt_values.specs.declared.reply.Reply.{Reply}
use Rattle.tt_values.specs.Tables.{IsCatalog}
use Rattle.tt_values.specs.Action.{replies_of}
use Rattle.tt_repair_laws.specs.declared.edit.Edit.{Edit}
use Rattle.tt_generations.specs.TwoGenerations.{Phase, Idle, Repairing, is_repairing}
use Rattle.tt_db.specs.declared.event.Event.{Event}
use Rattle.tt_db.specs.declared.event.Event.TheVariants as events
use Rattle.tt_db.specs.declared.errors.DbError.{DbError}
use Rattle.tt_db.specs.declared.limits.Limits.{Limits}
use Rattle.tt_db.specs.declared.errors.DbError.TheVariants as errors
use Rattle.tt_db.specs.Limits.{Fits}
use Rattle.tt_db.specs.declared.errors.ReadError.{ReadError}
use Rattle.tt_db.specs.State.{State, next_state, slots_left, refused_if, unless_repairing}
use Rattle.tt_db.specs.Database.{Database, state_of, refusal_of, now_in, current_of_db, repair_worker_of, right_preview_of}
use Rattle.tt_records.specs.declared.record.Record.{Record}
use Rattle.tt_records.specs.declared.record.What.{What}
use Rattle.tt_records.specs.declared.record.What.TheVariants as whats
use Rattle.tt_records.specs.Changes.{next_change_of}
use Rattle.tt_requests.specs.declared.request.Command.{Command}
use Rattle.tt_requests.specs.declared.request.Command.TheVariants as commands
use Rattle.tt_requests.specs.declared.request.ChangePage.{ChangePage}
use Rattle.tt_requests.specs.declared.request.Request.{Request}
use Rattle.tt_requests.specs.declared.request.ToldEdits.{ToldEdits}
use Rattle.tt_requests.specs.declared.request.Page.{Page}
use Rattle.tt_requests.specs.declared.told.ToldTime.{ToldTime}
use Rattle.tt_requests.specs.declared.told.ToldGeneration.{ToldGeneration}
use Rattle.tt_requests.specs.Numbers.{Numbering, own_time, own_generation}
use Rattle.tt_requests.specs.Opening.{max_records}
use Rattle.tt_answers.specs.declared.answer.Answer.{Answer}
use Rattle.tt_answers.specs.declared.answer.Answer.TheVariants as answers
use Rattle.tt_answers.specs.declared.answer.Refusal.{Refusal}
use Rattle.tt_db.proofs.EntryLemmas.{after-push}
use Rattle.tt_commands.specs.declared.session_change.StampedSlot.{StampedSlot}
use Rattle.tt_commands.specs.Records.{max_record_rows, rows_of_records, last_records}
use Rattle.tt_commands.specs.Session.{OpenSession, state_in, with_database, with_latest_if, with_stamp_if}
use Rattle.tt_commands.specs.Answers.{Answered}
use Rattle.tt_commands.specs.Room.{has_no_room_to_end, full_by_repair, refusal_in_session, CanEnd}
use Rattle.tt_commands.specs.Invariants.{IsOpenSession, RequestsKeepSessionsSound}
use Rattle.tt_commands.specs.Sound.{IsSound}
use Rattle.tt_commands.specs.Repairing.{status_of, entry_by, with_event, with_steps, with_all_steps, unless_refused, other_worker, unless_of_another, progress_answer, status_answer, after_switch, begin, step, finish, abort}
use Rattle.tt_commands.specs.Reading.{read, selected_by, previewed_by, latest_if, asks_for_all}
use Rattle.tt_commands.specs.ChangeEntries.{changes_answer, next_changes}
use Rattle.tt_commands.specs.AskedRepairs.{asked_repair, answer_of}
use Rattle.tt_commands.specs.CauseEntries.{causes_answer}
use Rattle.tt_commands.specs.DiffEntries.{differences_answer}
use Rattle.tt_commands.specs.Trials.{trial_answer, trial, would}
use Rattle.tt_commands.specs.ToldRequests.{forgotten_in, asks_for_forgotten, read_at, read_in, read_as_told, missing_if_idle, unless_missing, begin_as_told}
use Rattle.tt_requests.specs.ToldEdits.{own_edit}
use Rattle.tt_commands.specs.Changes.{forgotten_by}
use Rattle.tt_commands.specs.Forgetting.{forgetting_of, forget_refusal, forgets_nothing, forgotten_answer, forget}
use Rattle.tt_commands.specs.Commands.{stamped, write, written, carried_out, moved_to, unless_moved, outcome_of_request}
use Rattle.tt_requests.specs.Asked.{repair_worker_told}
use Rattle.tt_commands.proofs.StepLemmas.{accepted_in_session, can_end, room-can_end, switch_is_accepted, abort_is_accepted}
use Rattle.tt_commands.proofs.RecordLemmas.{few_last, few_rows-last}
use Rattle.tt_commands.proofs.ForgettingLemmas.{from_forget, forgotten-sound}
use Rattle.tt_commands.proofs.LawLemmas.{HasLegalHistory, legal-push, IsStepped, is_stepped}

-- a session goes on as another, with the same tables and limits
pub record GoesOn (before next : OpenSession) : Type 0 where
  pub catalog : next.database.catalog ≡ before.database.catalog
  pub limits : next.database.limits ≡ before.database.limits
  pub sound : IsOpenSession next

-- ---- from a result back to what it came from

from_unless : (refusal : Option DbError) (a b : Answered) → unless_refused refusal a ≡ Ok b → (refusal ≡ None) × (a ≡ b)
from_unless None a b is = (refl, cc)
from_unless (Some error) a b is = cc

or-none : (first second : Option DbError) → option_or first second ≡ None → (first ≡ None) × (second ≡ None)
or-none None second is = (refl, is)
or-none (Some error) second is = cc

refused_if-none : (b : Bool) (error : DbError) → refused_if b error ≡ None → b ≡ false
refused_if-none true error is = cc
refused_if-none false error is = refl

under_way-none : (phase : Phase) → unless_repairing phase ≡ None → is_repairing phase ≡ true
under_way-none Idle is = cc
under_way-none (Repairing edits n) is = refl

moved-none : (now : Option ℕ) (outcome : Result Answered Refusal) (b : Answered) → unless_moved now outcome ≡ Ok b → outcome ≡ Ok b
moved-none None outcome b is = is
moved-none (Some now) outcome b is = cc

another-none : (worker : Option ℕ) (outcome : Result Answered Refusal) (b : Answered) → unless_of_another worker outcome ≡ Ok b → outcome ≡ Ok b
another-none None outcome b is = is
another-none (Some worker) outcome b is = cc

-- ---- the next database

-- a database with a legal history, and room for the end of its repair
record IsNext (next : Database) : Type 0 where
  legal : HasLegalHistory next
  room : has_no_room_to_end next.limits (state_of next) ≡ false

-- an event that a session doesn't refuse
accepted : (db : Database) (worker : ℕ) (event : Event) → HasLegalHistory db → refusal_in_session db event ≡ None → IsNext (with_event db worker event)
accepted db worker event legal none =
    let both = or-none (refusal_of db event) (full_by_repair db event) none in
    record {
      legal = legal-push db worker event legal both.0;
      room = ap (has_no_room_to_end db.limits) (after-push db.limits db.history (entry_by worker event)) ∙ refused_if-none (has_no_room_to_end db.limits (next_state db.limits (state_of db) event)) (errors.Full db.limits.events) both.1;
    }

stepped : (db : Database) (worker count : ℕ) → HasLegalHistory db → CanEnd db → count ≤ slots_left (state_of db) → IsNext (with_steps db worker count)
stepped db worker count legal is few =
    let all = is_stepped count db worker is legal few in
    record { legal = all.legal; room = room-can_end (with_steps db worker count) all.can_end }

switched : (db : Database) (worker : ℕ) → HasLegalHistory db → CanEnd db → IsNext (with_event (with_all_steps db worker) worker events.Switch)
switched db worker legal is =
    let all = is_stepped (slots_left (state_of db)) db worker is legal (omega arith) in
    let last = with_all_steps db worker in
    let none : slots_left (state_of last) ≡ 0 = omega (arith, all.left) in
    record {
      legal = legal-push last worker events.Switch all.legal (switch_is_accepted last all.can_end none);
      room = ap (has_no_room_to_end db.limits) (after-push db.limits last.history (entry_by worker events.Switch));
    }

given_up : (db : Database) (worker : ℕ) → HasLegalHistory db → CanEnd db → IsNext (with_event db worker events.Abort)
given_up db worker legal is = record {
  legal = legal-push db worker events.Abort legal (abort_is_accepted db is);
  room = ap (has_no_room_to_end db.limits) (after-push db.limits db.history (entry_by worker events.Abort));
}

-- ---- a session whose database is another one

same-database : (db next : Database) (n : Numbering) (records : List Record) (most : ℕ) → IsSound db n records most → next ≡ db → IsSound next n records most
same-database db next n records most sound is = subst (λ (d : Database). IsSound d n records most) (sym is) sound

-- another one with the same tables and limits
sound-next : (db next : Database) (n : Numbering) (records : List Record) (most : ℕ) → IsSound db n records most → IsNext next → next.catalog ≡ db.catalog → next.limits ≡ db.limits
    → IsSound next n records most
sound-next db next n records most sound is catalog limits = record {
  catalog = subst IsCatalog (sym catalog) sound.catalog;
  fits = subst Fits (sym limits) sound.fits;
  edits = ap (λ (l : Limits). l.edits) limits ∙ sound.edits;
  legal = is.legal;
  room = is.room;
  numbered = sound.numbered;
  few_records = sound.few_records;
  few_kept = sound.few_kept;
  few_rows = sound.few_rows;
}

pub sound-accepted : (db next : Database) (n : Numbering) (records : List Record) (most worker : ℕ) (event : Event) → IsSound db n records most → refusal_in_session db event ≡ None
    → next ≡ with_event db worker event → IsSound next n records most
sound-accepted db next n records most worker event sound none is =
    let new = subst IsNext (sym is) (accepted db worker event sound.legal none) in
    sound-next db next n records most sound new (ap (λ (d : Database). d.catalog) is) (ap (λ (d : Database). d.limits) is)

-- without a history
pub sound-empty : (db next : Database) (n : Numbering) (records : List Record) (most : ℕ) → IsSound db n records most → next.catalog ≡ db.catalog → next.limits ≡ db.limits → next.history ≡ []
    → IsSound next n records most
sound-empty db next n records most sound catalog limits none =
    let empty : Database = record db { history = [] } in
    let is : next ≡ empty = λ i. record { catalog = catalog i; limits = limits i; history = none i } in
    sound-next db next n records most sound (subst IsNext (sym is) (record { legal = tt; room = refl })) catalog limits

pub sound-advanced : {X : Type 0} (r : Result X DbError) (db next : Database) (n : Numbering) (records : List Record) (most worker : ℕ) (event : Event) → IsSound db n records most
    → has_no_room_to_end db.limits (next_state db.limits (state_of db) event) ≡ false
    → OnOk r (next ≡ with_event db worker event) → OnOk r (refusal_of db event ≡ None)
    → IfErr r (λ e. e ≢ errors.Memory → next ≡ db) → IfErr r (λ e. e ≡ errors.Memory → next.history ≡ []) → next.catalog ≡ db.catalog → next.limits ≡ db.limits
    → IsSound next n records most
sound-advanced (Ok outcome) db next n records most worker event sound room state none stays empty catalog limits =
    sound-accepted db next n records most worker event sound (accepted_in_session db event none room) state
sound-advanced (Err errors.Memory) db next n records most worker event sound room state none stays empty catalog limits =
    sound-empty db next n records most sound catalog limits (empty refl)
sound-advanced (Err (errors.Statement fault)) db next n records most worker event sound room state none stays empty catalog limits = same-database db next n records most sound (stays (λ is. cc))
sound-advanced (Err errors.Repairing) db next n records most worker event sound room state none stays empty catalog limits = same-database db next n records most sound (stays (λ is. cc))
sound-advanced (Err errors.NotRepairing) db next n records most worker event sound room state none stays empty catalog limits = same-database db next n records most sound (stays (λ is. cc))
sound-advanced (Err (errors.NotCaughtUp left)) db next n records most worker event sound room state none stays empty catalog limits = same-database db next n records most sound (stays (λ is. cc))
sound-advanced (Err errors.NothingLeft) db next n records most worker event sound room state none stays empty catalog limits = same-database db next n records most sound (stays (λ is. cc))
sound-advanced (Err (errors.NoSlot t)) db next n records most worker event sound room state none stays empty catalog limits = same-database db next n records most sound (stays (λ is. cc))
sound-advanced (Err (errors.EditTwice t)) db next n records most worker event sound room state none stays empty catalog limits = same-database db next n records most sound (stays (λ is. cc))
sound-advanced (Err errors.TooManyEdits) db next n records most worker event sound room state none stays empty catalog limits = same-database db next n records most sound (stays (λ is. cc))
sound-advanced (Err (errors.Full limit)) db next n records most worker event sound room state none stays empty catalog limits = same-database db next n records most sound (stays (λ is. cc))

-- after steps of a repair that was under way
pub sound-stepped : (db before next : Database) (n : Numbering) (records : List Record) (most count : ℕ) → IsSound db n records most → IsStepped before next count
    → next.catalog ≡ db.catalog → next.limits ≡ db.limits → IsSound next n records most
sound-stepped db before next n records most count sound is catalog limits =
    sound-next db next n records most sound (record { legal = is.legal; room = room-can_end next is.can_end }) catalog limits

-- ---- the next session

same : (session : OpenSession) → IsOpenSession session → GoesOn session session
same session sound = record { catalog = refl; limits = refl; sound = sound }

-- with the last of some records, as many as may be kept
pub kept-sound : (db : Database) (n : Numbering) (before records kept : List Record) (earlier most : ℕ) → IsSound db n before earlier → most ≤ max_records → kept ≡ last_records most records
    → IsSound db n kept most
kept-sound db n before records kept earlier most sound few is = record {
  catalog = sound.catalog;
  fits = sound.fits;
  edits = sound.edits;
  legal = sound.legal;
  room = sound.room;
  numbered = sound.numbered;
  few_records = subst (λ (l : List Record). length l ≤ most) (sym is) (few_last most records);
  few_kept = few;
  few_rows = subst (λ (l : List Record). rows_of_records l ≤ max_record_rows) (sym is) (few_rows-last most records);
}

-- with one more record, or as before where memory ran out
pub put-sound : {X E : Type 0} (r : Result X E) (db : Database) (n : Numbering) (records kept : List Record) (latest : Record) (most : ℕ) → IsSound db n records most
    → OnOk r (kept ≡ last_records most (records ++ latest ∷ [])) → OnErr r (kept ≡ records) → IsSound db n kept most
put-sound (Ok x) db n records kept latest most sound put stays = kept-sound db n records (records ++ latest ∷ []) kept most most sound sound.few_kept put
put-sound (Err e) db n records kept latest most sound put stays = subst (λ (l : List Record). IsSound db n l most) (sym stays) sound

with_latest-sound : (session : OpenSession) (latest : Record) → IsOpenSession session → GoesOn session (with_latest_if session (Some latest))
with_latest-sound session latest sound = record {
  catalog = refl;
  limits = refl;
  sound = kept-sound session.database session.numbering session.records (session.records ++ latest ∷ []) (last_records session.most_records (session.records ++ latest ∷ []))
      session.most_records session.most_records sound sound.few_kept refl;
}

with_stamp-sound : (session : OpenSession) (stamp : Option StampedSlot) → IsOpenSession session → GoesOn session (with_stamp_if session stamp)
with_stamp-sound session None sound = same session sound
with_stamp-sound session (Some s) sound = record { catalog = refl; limits = refl; sound = sound }

-- the database is another one, with the same tables and limits
next-sound : (session : OpenSession) (next : Database) → IsOpenSession session → IsNext next → next.catalog ≡ session.database.catalog → next.limits ≡ session.database.limits
    → GoesOn session (with_database session next)
next-sound session next sound is catalog limits = record {
  catalog = catalog;
  limits = limits;
  sound = sound-next session.database next session.numbering session.records session.most_records sound is catalog limits;
}

onwards : (first second last : OpenSession) → GoesOn first second → (IsOpenSession second → GoesOn second last) → GoesOn first last
onwards first second last on more =
    let sound : IsOpenSession second = on.sound in
    let rest = more sound in
    record { catalog = rest.catalog ∙ on.catalog; limits = rest.limits ∙ on.limits; sound = rest.sound }

-- ---- commands

-- an answered session goes on
abbrev AnswersOn : OpenSession → Result Answered Refusal → Type 0
AnswersOn session outcome = (b : Answered) → outcome ≡ Ok b → GoesOn session b.session

to : (session : OpenSession) (a b : Answered) → a ≡ b → GoesOn session a.session → GoesOn session b.session
to session a b is on = subst (λ (x : Answered). GoesOn session x.session) is on

from_ok : (a b : Answered) → ◌≡◌ {A = Result Answered Refusal} (Ok a) (Ok b) → a ≡ b
from_ok a b is = cc

told : (session : OpenSession) (answer : Answer) → IsOpenSession session → AnswersOn session (Ok (record { answer = answer; session = session }))
told session answer sound b is = to session _ b (from_ok (record { answer = answer; session = session }) b is) (same session sound)

write-on : (session : OpenSession) (worker : ℕ) (action : Action) (stamp : Option ℕ) → IsOpenSession session → AnswersOn session (write session worker action stamp)
write-on session worker action stamp sound b is =
    let db = session.database in
    let next = with_event db worker (events.Write action) in
    let parts = from_unless (refusal_in_session db (events.Write action)) (written session worker action stamp) b is in
    let on = next-sound session next sound (accepted db worker (events.Write action) sound.legal parts.0) refl refl in
    let latest : Record = record { call = session.calls; worker = worker; what = whats.Write (now_in db + 1) (replies_of action (current_of_db db (now_in db))) } in
    let recorded = with_latest_if (with_database session next) (Some latest) in
    let on_record = onwards session (with_database session next) recorded on (λ s. with_latest-sound (with_database session next) latest s) in
    to session (written session worker action stamp) b parts.1 (onwards session recorded _ on_record (λ s. with_stamp-sound recorded (stamped (now_in db + 1) stamp) s))

begin-on : (session : OpenSession) (worker : ℕ) (edits : List Edit) → IsOpenSession session → AnswersOn session (begin session worker edits)
begin-on session worker edits sound b is =
    let db = session.database in
    let first = with_event db worker (events.Begin edits) in
    let count = min session.numbering.ground_slots (slots_left (state_of first)) in
    let next = with_steps first worker count in
    let parts = from_unless (refusal_in_session db (events.Begin edits)) (progress_answer session next) b is in
    let begun = accepted db worker (events.Begin edits) sound.legal parts.0 in
    let repairing : is_repairing (state_of first).phase ≡ true = ap (λ (S : State). is_repairing S.phase) (after-push db.limits db.history (entry_by worker (events.Begin edits))) in
    to session (progress_answer session next) b parts.1
    (next-sound session next sound (stepped first worker count begun.legal (can_end first repairing begun.room) (omega arith)) refl refl)

under_way : (session : OpenSession) → IsOpenSession session → unless_repairing (state_in session).phase ≡ None → CanEnd session.database
under_way session sound none = can_end session.database (under_way-none (state_in session).phase none) sound.room

step-on : (session : OpenSession) (worker most : ℕ) → IsOpenSession session → AnswersOn session (step session worker most)
step-on session worker most sound b is =
    let db = session.database in
    let count = min most (slots_left (state_of db)) in
    let next = with_steps db worker count in
    let parts = from_unless (unless_repairing (state_of db).phase) (progress_answer session next) b is in
    let few : count ≤ slots_left (state_of db) = omega arith in
    to session (progress_answer session next) b parts.1 (next-sound session next sound (stepped db worker count sound.legal (under_way session sound parts.0) few) refl refl)

finish-on : (session : OpenSession) (worker : ℕ) → IsOpenSession session → AnswersOn session (finish session worker)
finish-on session worker sound b is =
    let db = session.database in
    let last = with_all_steps db worker in
    let parts = from_unless (unless_repairing (state_of db).phase) (after_switch session worker last) b is in
    to session (after_switch session worker last) b parts.1
    (next-sound session (with_event last worker events.Switch) sound (switched db worker sound.legal (under_way session sound parts.0)) refl refl)

abort-on : (session : OpenSession) (worker : ℕ) → IsOpenSession session → AnswersOn session (abort session worker)
abort-on session worker sound b is =
    let db = session.database in
    let next = with_event db worker events.Abort in
    let parts = from_unless (unless_repairing (state_of db).phase) (status_answer session next) b is in
    to session (status_answer session next) b parts.1 (next-sound session next sound (given_up db worker sound.legal (under_way session sound parts.0)) refl refl)

latest-on : (session : OpenSession) (kept : Bool) (worker : ℕ) (what : What) → IsOpenSession session → GoesOn session (with_latest_if session (latest_if kept session worker what))
latest-on session true worker what sound = with_latest-sound session (record { call = session.calls; worker = worker; what = what }) sound
latest-on session false worker what sound = same session sound

selected-on : (session : OpenSession) (worker : ℕ) (q : Select) (generation : Option ℕ) (page : Page) (time : ℕ) (right : Result Reply ReadError) → IsOpenSession session
    → AnswersOn session (selected_by session worker q generation page time right)
selected-on session worker q generation page time (Err error) sound b is = cc
selected-on session worker q generation page time (Ok reply) sound b is =
    to session _ b (from_ok _ b is) (latest-on session (asks_for_all generation page) worker (whats.Read q time reply) sound)

previewed-on : (session : OpenSession) (page : Page) (right : Result Reply ReadError) → IsOpenSession session → AnswersOn session (previewed_by session page right)
previewed-on session page (Err error) sound b is = cc
previewed-on session page (Ok reply) sound b is = to session _ b (from_ok _ b is) (same session sound)

next_changes-on : (session : OpenSession) (page : ChangePage) → IsOpenSession session → AnswersOn session (next_changes session page)
next_changes-on session page sound b is =
    let S = state_in session in
    let told = changes_answer session page (next_change_of session.database.catalog S) in
    let parts = from_unless (unless_repairing S.phase) told b is in
    to session told b parts.1 (same session sound)

answer-on : {X : Type 0} (session : OpenSession) (answer : X → Answer) (asked : Result X Refusal) → IsOpenSession session → AnswersOn session (answer_of session answer asked)
answer-on session answer (Ok x) sound = told session (answer x) sound
answer-on session answer (Err refusal) sound = λ b is. cc

-- ---- requests by the numbers that are told

missing-none : (missing : Option ToldTime) (outcome : Result Answered Refusal) (b : Answered) → unless_missing missing outcome ≡ Ok b → outcome ≡ Ok b
missing-none None outcome b is = is
missing-none (Some slot) outcome b is = cc

begin-as-told-on : (session : OpenSession) (worker : ℕ) (told : ToldEdits) → IsOpenSession session → AnswersOn session (begin_as_told session worker told)
begin-as-told-on session worker told sound b is =
    let edits = map (own_edit session.numbering) told.edits in
    begin-on session worker edits sound b (missing-none (missing_if_idle session told.edits) (begin session worker edits) b is)

would-on : (session : OpenSession) (told : ToldEdits) → IsOpenSession session → AnswersOn session (would session told)
would-on session told sound b is =
    let edits = map (own_edit session.numbering) told.edits in
    let answered = trial_answer session edits in
    let parts = from_unless (refusal_in_session session.database (events.Begin edits)) answered b (missing-none (missing_if_idle session told.edits) (trial session edits) b is) in
    to session answered b parts.1 (same session sound)

read-at-on : (session : OpenSession) (worker : ℕ) (q : Select) (generation : Option ℕ) (at : Option ToldTime) (page : Page) → IsOpenSession session
    → AnswersOn session (read_at session worker q generation at page)
read-at-on session worker q generation at page sound = go (asks_for_forgotten session.numbering at)
  where
    go : (forgotten : Bool) → AnswersOn session (cond forgotten (Err (forgotten_in session (unwrap_or generation (state_in session).generation))) (read session worker q generation (option_map (own_time session.numbering) at) page))
    go true = λ b is. cc
    go false = selected-on session worker q generation page _ _ sound

read-in-on : (session : OpenSession) (worker : ℕ) (q : Select) (number : Option ℕ) (at : Option ToldTime) (page : Page) → IsOpenSession session
    → AnswersOn session (read_in session worker q number at page)
read-in-on session worker q None at page sound = λ b is. cc
read-in-on session worker q (Some number) at page sound = read-at-on session worker q (Some number) at page sound

read-as-told-on : (session : OpenSession) (worker : ℕ) (q : Select) (generation : Option ToldGeneration) (at : Option ToldTime) (page : Page) → IsOpenSession session
    → AnswersOn session (read_as_told session worker q generation at page)
read-as-told-on session worker q None at page sound = read-at-on session worker q None at page sound
read-as-told-on session worker q (Some generation) at page sound = read-in-on session worker q (own_generation session.numbering generation) at page sound

forget-on : (session : OpenSession) (time : ToldTime) → IsOpenSession session → AnswersOn session (forget session time)
forget-on session time sound b is =
    let f = forgetting_of session time in
    let parts = from_forget (forget_refusal session time) (forgotten_answer session f) b is in
    to session (forgotten_answer session f) b parts.1 (go (forgets_nothing session f) (forgotten-sound session time sound parts.0))
  where
    go : (nothing : Bool) → IsOpenSession (forgotten_by session (forgetting_of session time))
        → GoesOn session (cond {A = Answered} nothing (record { answer = answers.Standing (status_of session.database); session = session })
        (record { answer = answers.Standing (status_of (forgetting_of session time).db); session = forgotten_by session (forgetting_of session time) })).session
    go true behind = same session sound
    go false behind = record { catalog = refl; limits = refl; sound = behind }

carried_out-on : (session : OpenSession) (worker : ℕ) (command : Command) → IsOpenSession session → AnswersOn session (carried_out session worker command)
carried_out-on session worker (commands.Write action stamp) sound = write-on session worker action stamp sound
carried_out-on session worker (commands.Read q at generation page) sound = read-as-told-on session worker q generation at page sound
carried_out-on session worker (commands.Preview q page) sound = previewed-on session page (right_preview_of session.database q) sound
carried_out-on session worker (commands.Begin told) sound = begin-as-told-on session worker told sound
carried_out-on session worker (commands.Step most told) sound = step-on session worker most sound
carried_out-on session worker (commands.Finish told) sound = finish-on session worker sound
carried_out-on session worker (commands.Abort told) sound = abort-on session worker sound
carried_out-on session worker commands.Status sound = told session _ sound
carried_out-on session worker (commands.Slots from to filter) sound = told session _ sound
carried_out-on session worker (commands.Changes page) sound = told session _ sound
carried_out-on session worker (commands.NextChanges page) sound = next_changes-on session page sound
carried_out-on session worker commands.Tables sound = told session _ sound
carried_out-on session worker (commands.Why generation page) sound = answer-on session (causes_answer session page) (asked_repair session generation) sound
carried_out-on session worker (commands.Diff generation page) sound = answer-on session (differences_answer session page) (asked_repair session generation) sound
carried_out-on session worker (commands.Would told) sound = would-on session told sound
carried_out-on session worker (commands.Forget time) sound = forget-on session time sound

-- whatever a session is asked, it goes on as one
goes_on : (session : OpenSession) (request : Request) → IsOpenSession session → (b : Answered) → outcome_of_request session request ≡ Ok b → GoesOn session b.session
goes_on session request sound b is =
    carried_out-on session request.worker request.command sound b
    (another-none (other_worker (repair_worker_told request.command) (repair_worker_of session.database)) _ b
    (moved-none (moved_to session.numbering (now_in session.database) request.expected) _ b is))

pub requests_keep_sessions_sound : RequestsKeepSessionsSound
requests_keep_sessions_sound session request answered sound is = (goes_on session request sound answered is).sound
