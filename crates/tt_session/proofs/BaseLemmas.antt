-- What becomes of the database, of how its numbers are told, and of the stamps: it depends on these three alone, and what only reads leaves them.
use Rattle.std.proofs.Common.{◌≡◌, ◌⊎◌, ℕ, zero, suc, ◌+◌, ◌<◌, ◌≤◌, ◌==◌, ◌&&◌, Bool, true, false, cond, List, [], ◌∷◌, length, map, replicate, append-nil, length-append, Option, None, Some, Result, Ok, Err, inl, inr, refl, sym, ap, ◌∙◌, arith, ne_eqb}
use Rattle.std.specs.Option.{option_map, unwrap_or}
use Rattle.std.proofs.lemmas.List.{length-replicate}
use Rattle.tt_values.specs.declared.action.Action.{Action}
use Rattle.tt_values.specs.declared.reply.Reply.{Reply}
use Rattle.tt_values.specs.declared.statement.Select.{Select}
use Rattle.tt_repair_laws.specs.declared.edit.Edit.{Edit}
use Rattle.tt_db.specs.declared.event.Event.{Event}
use Rattle.tt_db.specs.declared.event.Event.TheVariants as events
use Rattle.tt_db.specs.declared.errors.DbError.{DbError}
use Rattle.tt_db.specs.declared.errors.ReadError.{ReadError}
use Rattle.tt_db.specs.State.{slots_left, unless_repairing}
use Rattle.tt_db.specs.Database.{Database, now_in, repair_worker_of, right_preview_of, state_of}
use Rattle.tt_grammar.specs.declared.fault.DocFault.{DocFault}
use Rattle.tt_records.specs.declared.record.Record.{Record}
use Rattle.tt_requests.specs.declared.request.Command.{Command}
use Rattle.tt_requests.specs.declared.request.Command.TheVariants as commands
use Rattle.tt_requests.specs.declared.request.Page.{Page}
use Rattle.tt_requests.specs.declared.request.SlotPage.{SlotPage}
use Rattle.tt_requests.specs.declared.request.DiffPage.{DiffPage}
use Rattle.tt_requests.specs.declared.request.ToldEdits.{ToldEdits}
use Rattle.tt_requests.specs.declared.told.ToldTime.{ToldTime}
use Rattle.tt_requests.specs.declared.told.ToldGeneration.{ToldGeneration}
use Rattle.tt_requests.specs.Numbers.{Numbering, own_time, own_generation}
use Rattle.tt_requests.specs.declared.request.Request.{Request}
use Rattle.tt_answers.specs.declared.answer.Refusal.{Refusal}
use Rattle.tt_answers.specs.declared.answer.Answer.{Answer}
use Rattle.tt_answers.specs.declared.answer.Answer.TheVariants as answers
use Rattle.tt_session.specs.declared.session.Session.TheVariants.{Open}
use Rattle.tt_commands.specs.Answers.{Answered}
use Rattle.tt_commands.specs.Commands.{written, carried_out, moved_to, outcome_of_request, unless_moved}
use Rattle.tt_requests.specs.Asked.{asks_read_only, is_read_only, repair_worker_told}
use Rattle.tt_commands.specs.Reading.{read, previewed_by, selected_by}
use Rattle.tt_commands.specs.AskedRepairs.{asked_repair, answer_of}
use Rattle.tt_commands.specs.CauseEntries.{causes_answer, why}
use Rattle.tt_commands.specs.DiffEntries.{differences_answer, diff}
use Rattle.tt_commands.specs.Trials.{trial_answer, trial, would}
use Rattle.tt_commands.specs.ToldRequests.{forgotten_in, asks_for_forgotten, read_at, read_in, read_as_told, missing_if_idle, unless_missing}
use Rattle.tt_requests.specs.ToldEdits.{own_edit}
use Rattle.tt_commands.specs.Changes.{forgotten_by}
use Rattle.tt_commands.specs.Forgetting.{forgetting_of, forget_refusal, forgets_nothing, forgotten_answer, unless_forget_refused, forget}
use Rattle.tt_commands.specs.Repairing.{entry_by, status_of, unless_refused, other_worker, unless_of_another, with_event, with_steps, with_all_steps}
use Rattle.tt_commands.specs.Room.{refusal_in_session}
use Rattle.tt_session.specs.Run.{turn_by_outcome, turn_by_request}
use Rattle.tt_commands.specs.Session.{OpenSession, Forgetting, state_in}
use Rattle.tt_session.proofs.TogetherLemmas.{open-same}
use Rattle.tt_session.proofs.LoggedLemmas.{same-next}

-- ---- what becomes of the database, of how its numbers are told, and of the stamps

-- what the answers to requests depend on, apart from records and the number of the call
pub record Base : Type 0 where
  pub database : Database
  pub numbering : Numbering
  pub stamps : List (Option ℕ)

abbrev pub base_of : OpenSession → Base
base_of session = record { database = session.database; numbering = session.numbering; stamps = session.stamps }

abbrev pub outcome_base : Base → Result Answered Refusal → Base
outcome_base base (Ok answered) = base_of answered.session
outcome_base base (Err refusal) = base

-- whether a session is as far as another: as many entries, and the same horizon
abbrev pub is_as_far : Base → Base → Bool
is_as_far new base = (length new.database.history + 1 == length base.database.history + 1) && (new.numbering.horizon == base.numbering.horizon)

-- it stays, or it is at another point
abbrev pub Goes : Base → Base → Type 0
Goes base new = (new ≡ base) ⊎ (is_as_far new base ≡ false)

abbrev pub with_db : Base → Database → Base
with_db base db = record base { database = db }

pub longer-goes : (base : Base) (db : Database) → length base.database.history < length db.history → Goes base (with_db base db)
longer-goes base db more =
    inr (ap (λ b. b && (base.numbering.horizon == base.numbering.horizon)) (ne_eqb (length db.history + 1) (length base.database.history + 1) (λ e. omega (arith, e, more))))

pub refused-goes : (base : Base) (refusal : Option DbError) (a : Answered) → Goes base (base_of a.session) → Goes base (outcome_base base (unless_refused refusal a))
refused-goes base None a goes = goes
refused-goes base (Some error) a goes = inl refl

pub event-longer : (db : Database) (worker : ℕ) (event : Event) → length db.history < length (with_event db worker event).history
event-longer db worker event = omega (arith, length-append db.history (entry_by worker event ∷ []))

pub steps-longer : (db : Database) (worker count : ℕ) → length db.history ≤ length (with_steps db worker count).history
steps-longer db worker count = omega (arith, length-append db.history (replicate count (entry_by worker events.Step)))

pub event-goes : (base : Base) (worker : ℕ) (event : Event) → Goes base (with_db base (with_event base.database worker event))
event-goes base worker event = longer-goes base (with_event base.database worker event) (event-longer base.database worker event)

-- an action, whether its slot has a stamp or none
pub write-goes : (session : OpenSession) (worker : ℕ) (action : Action) (stamp : Option ℕ) → Goes (base_of session) (base_of (written session worker action stamp).session)
write-goes session worker action None = event-goes (base_of session) worker (events.Write action)
write-goes session worker action (Some s) =
    inr (ap (λ b. b && (session.numbering.horizon == session.numbering.horizon))
    (ne_eqb (length (with_event session.database worker (events.Write action)).history + 1) (length session.database.history + 1) (λ e. omega (arith, e, event-longer session.database worker (events.Write action)))))

pub begin-goes : (base : Base) (worker count : ℕ) (event : Event) → Goes base (with_db base (with_steps (with_event base.database worker event) worker count))
begin-goes base worker count event =
    let first = with_event base.database worker event in
    longer-goes base (with_steps first worker count) (omega (arith, event-longer base.database worker event, steps-longer first worker count))

pub steps-go : (base : Base) (worker count : ℕ) → Goes base (with_db base (with_steps base.database worker count))
steps-go base worker zero = inl (λ i. with_db base (record base.database { history = append-nil base.database.history i }))
steps-go base worker (suc n) =
    longer-goes base (with_steps base.database worker (suc n))
    (omega (arith, length-append base.database.history (replicate (suc n) (entry_by worker events.Step)), length-replicate (suc n) (entry_by worker events.Step)))

pub switch-goes : (base : Base) (worker : ℕ) → Goes base (with_db base (with_event (with_all_steps base.database worker) worker events.Switch))
switch-goes base worker =
    let all = with_all_steps base.database worker in
    longer-goes base (with_event all worker events.Switch)
    (omega (arith, event-longer all worker events.Switch, steps-longer base.database worker (slots_left (state_of base.database))))

pub selected-stays : (session : OpenSession) (worker : ℕ) (q : Select) (generation : Option ℕ) (page : Page) (time : ℕ) (right : Result Reply ReadError)
    → outcome_base (base_of session) (selected_by session worker q generation page time right) ≡ base_of session
selected-stays session worker q generation page time (Err error) = refl
selected-stays session worker q generation page time (Ok reply) = refl

pub read-at-stays : (session : OpenSession) (worker : ℕ) (q : Select) (generation : Option ℕ) (at : Option ToldTime) (page : Page)
    → outcome_base (base_of session) (read_at session worker q generation at page) ≡ base_of session
read-at-stays session worker q generation at page = go (asks_for_forgotten session.numbering at)
  where
    go : (forgotten : Bool) → outcome_base (base_of session) (cond forgotten (Err (forgotten_in session (unwrap_or generation (state_in session).generation)))
        (read session worker q generation (option_map (own_time session.numbering) at) page)) ≡ base_of session
    go true = refl
    go false = selected-stays session worker q generation page _ _

pub read-in-stays : (session : OpenSession) (worker : ℕ) (q : Select) (number : Option ℕ) (at : Option ToldTime) (page : Page)
    → outcome_base (base_of session) (read_in session worker q number at page) ≡ base_of session
read-in-stays session worker q None at page = refl
read-in-stays session worker q (Some number) at page = read-at-stays session worker q (Some number) at page

pub read-stays : (session : OpenSession) (worker : ℕ) (q : Select) (generation : Option ToldGeneration) (at : Option ToldTime) (page : Page)
    → outcome_base (base_of session) (read_as_told session worker q generation at page) ≡ base_of session
read-stays session worker q None at page = read-at-stays session worker q None at page
read-stays session worker q (Some generation) at page = read-in-stays session worker q (own_generation session.numbering generation) at page

pub previewed-stays : (session : OpenSession) (page : Page) (right : Result Reply ReadError) → outcome_base (base_of session) (previewed_by session page right) ≡ base_of session
previewed-stays session page (Err error) = refl
previewed-stays session page (Ok reply) = refl

pub answer-stays : {X : Type 0} (session : OpenSession) (answer : X → Answer) (asked : Result X Refusal) → outcome_base (base_of session) (answer_of session answer asked) ≡ base_of session
answer-stays session answer (Ok x) = refl
answer-stays session answer (Err refusal) = refl

pub why-stays : (session : OpenSession) (generation : Option ToldGeneration) (page : SlotPage) → outcome_base (base_of session) (why session generation page) ≡ base_of session
why-stays session generation page = answer-stays session (causes_answer session page) (asked_repair session generation)

pub diff-stays : (session : OpenSession) (generation : Option ToldGeneration) (page : DiffPage) → outcome_base (base_of session) (diff session generation page) ≡ base_of session
diff-stays session generation page = answer-stays session (differences_answer session page) (asked_repair session generation)

pub would-stays : (session : OpenSession) (told : ToldEdits) → outcome_base (base_of session) (would session told) ≡ base_of session
would-stays session told = by_missing (missing_if_idle session told.edits)
  where
    edits : List Edit
    edits = map (own_edit session.numbering) told.edits

    by_refusal : (refusal : Option DbError) → outcome_base (base_of session) (unless_refused refusal (trial_answer session edits)) ≡ base_of session
    by_refusal None = refl
    by_refusal (Some error) = refl

    by_missing : (missing : Option ToldTime) → outcome_base (base_of session) (unless_missing missing (trial session edits)) ≡ base_of session
    by_missing None = by_refusal (refusal_in_session session.database (events.Begin edits))
    by_missing (Some slot) = refl

pub missing-goes : (base : Base) (missing : Option ToldTime) (outcome : Result Answered Refusal) → Goes base (outcome_base base outcome) → Goes base (outcome_base base (unless_missing missing outcome))
missing-goes base None outcome goes = goes
missing-goes base (Some slot) outcome goes = inl refl

pub forget-goes : (session : OpenSession) (time : ToldTime) → Goes (base_of session) (outcome_base (base_of session) (forget session time))
forget-goes session time = refused (forget_refusal session time)
  where
    f : Forgetting
    f = forgetting_of session time

    go : (nothing : Bool) → forgets_nothing session f ≡ nothing
        → Goes (base_of session) (base_of (cond {A = Answered} nothing (record { answer = answers.Standing (status_of session.database); session = session })
        (record { answer = answers.Standing (status_of f.db); session = forgotten_by session f })).session)
    go true is = inl refl
    go false is =
        inr (ap (λ b. b && (f.numbering.horizon == session.numbering.horizon)) (same-next (length f.db.history) (length session.database.history)) ∙ is)

    refused : (refusal : Option Refusal) → Goes (base_of session) (outcome_base (base_of session) (unless_forget_refused refusal (forgotten_answer session f)))
    refused None = go (forgets_nothing session f) refl
    refused (Some refusal) = inl refl

pub carried-goes : (session : OpenSession) (worker : ℕ) (command : Command) → Goes (base_of session) (outcome_base (base_of session) (carried_out session worker command))
carried-goes session worker (commands.Write action stamp) = refused-goes (base_of session) (refusal_in_session session.database (events.Write action)) _ (write-goes session worker action stamp)
carried-goes session worker (commands.Read q at generation page) = inl (read-stays session worker q generation at page)
carried-goes session worker (commands.Preview q page) = inl (previewed-stays session page (right_preview_of session.database q))
carried-goes session worker (commands.Begin told) =
    let event = events.Begin (map (own_edit session.numbering) told.edits) in
    missing-goes (base_of session) (missing_if_idle session told.edits) _ (refused-goes (base_of session) (refusal_in_session session.database event) _ (begin-goes (base_of session) worker _ event))
carried-goes session worker (commands.Step most told) = refused-goes (base_of session) (unless_repairing (state_in session).phase) _ (steps-go (base_of session) worker _)
carried-goes session worker (commands.Finish told) = refused-goes (base_of session) (unless_repairing (state_in session).phase) _ (switch-goes (base_of session) worker)
carried-goes session worker (commands.Abort told) = refused-goes (base_of session) (unless_repairing (state_in session).phase) _ (event-goes (base_of session) worker events.Abort)
carried-goes session worker commands.Status = inl refl
carried-goes session worker (commands.Slots from to filter) = inl refl
carried-goes session worker (commands.Changes page) = inl refl
carried-goes session worker (commands.NextChanges page) = refused-goes (base_of session) (unless_repairing (state_in session).phase) _ (inl refl)
carried-goes session worker commands.Tables = inl refl
carried-goes session worker (commands.Why generation page) = inl (why-stays session generation page)
carried-goes session worker (commands.Diff generation page) = inl (diff-stays session generation page)
carried-goes session worker (commands.Would told) = inl (would-stays session told)
carried-goes session worker (commands.Forget time) = forget-goes session time

pub moved-goes : (base : Base) (now : Option ℕ) (outcome : Result Answered Refusal) → Goes base (outcome_base base outcome) → Goes base (outcome_base base (unless_moved now outcome))
moved-goes base None outcome goes = goes
moved-goes base (Some now) outcome goes = inl refl

pub another-goes : (base : Base) (worker : Option ℕ) (outcome : Result Answered Refusal) → Goes base (outcome_base base outcome) → Goes base (outcome_base base (unless_of_another worker outcome))
another-goes base None outcome goes = goes
another-goes base (Some worker) outcome goes = inl refl

-- it is the same whatever the records, the number of the call and the openings
abbrev pub session_of : Base → Bool → List Record → ℕ → ℕ → OpenSession
session_of base has_opening records most calls = record { has_opening = has_opening; database = base.database; numbering = base.numbering; stamps = base.stamps; records = records; most_records = most; calls = calls }

pub refused-same : (base : Base) (refusal : Option DbError) (a b : Answered) → base_of a.session ≡ base_of b.session → outcome_base base (unless_refused refusal a) ≡ outcome_base base (unless_refused refusal b)
refused-same base None a b same = same
refused-same base (Some error) a b same = refl

pub missing-same : (base : Base) (missing : Option ToldTime) (a b : Result Answered Refusal) → outcome_base base a ≡ outcome_base base b → outcome_base base (unless_missing missing a) ≡ outcome_base base (unless_missing missing b)
missing-same base None a b same = same
missing-same base (Some slot) a b same = refl

pub forget-same : (base : Base) (refusal : Option Refusal) (a b : Answered) → base_of a.session ≡ base_of b.session → outcome_base base (unless_forget_refused refusal a) ≡ outcome_base base (unless_forget_refused refusal b)
forget-same base None a b same = same
forget-same base (Some refusal) a b same = refl

module _ (base : Base) (v w : Bool) (r q : List Record) (m l n k : ℕ) where
  abbrev pub one : OpenSession
  one = session_of base v r m n

  abbrev pub other : OpenSession
  other = session_of base w q l k

  pub forgotten-same : (f : Forgetting) → base_of (forgotten_answer one f).session ≡ base_of (forgotten_answer other f).session
  forgotten-same f = go (forgets_nothing one f)
    where
      after : OpenSession → Bool → Base
      after s nothing =
          base_of (cond {A = Answered} nothing (record { answer = answers.Standing (status_of s.database); session = s }) (record { answer = answers.Standing (status_of f.db); session = forgotten_by s f })).session

      go : (nothing : Bool) → after one nothing ≡ after other nothing
      go true = refl
      go false = refl

  pub written-same : (worker : ℕ) (action : Action) (stamp : Option ℕ) → base_of (written one worker action stamp).session ≡ base_of (written other worker action stamp).session
  written-same worker action None = refl
  written-same worker action (Some s) = refl

  pub carried-same : (worker : ℕ) (command : Command) → outcome_base base (carried_out one worker command) ≡ outcome_base base (carried_out other worker command)
  carried-same worker (commands.Write action stamp) = refused-same base (refusal_in_session base.database (events.Write action)) _ _ (written-same worker action stamp)
  carried-same worker (commands.Read q at generation page) = read-stays one worker q generation at page ∙ sym (read-stays other worker q generation at page)
  carried-same worker (commands.Preview q page) = previewed-stays one page (right_preview_of base.database q) ∙ sym (previewed-stays other page (right_preview_of base.database q))
  carried-same worker (commands.Begin told) =
      missing-same base (missing_if_idle one told.edits) _ _ (refused-same base (refusal_in_session base.database (events.Begin (map (own_edit base.numbering) told.edits))) _ _ refl)
  carried-same worker (commands.Step most told) = refused-same base (unless_repairing (state_in one).phase) _ _ refl
  carried-same worker (commands.Finish told) = refused-same base (unless_repairing (state_in one).phase) _ _ refl
  carried-same worker (commands.Abort told) = refused-same base (unless_repairing (state_in one).phase) _ _ refl
  carried-same worker commands.Status = refl
  carried-same worker (commands.Slots from to filter) = refl
  carried-same worker (commands.Changes page) = refl
  carried-same worker (commands.NextChanges page) = refused-same base (unless_repairing (state_in one).phase) _ _ refl
  carried-same worker commands.Tables = refl
  carried-same worker (commands.Why generation page) = why-stays one generation page ∙ sym (why-stays other generation page)
  carried-same worker (commands.Diff generation page) = diff-stays one generation page ∙ sym (diff-stays other generation page)
  carried-same worker (commands.Would told) = would-stays one told ∙ sym (would-stays other told)
  carried-same worker (commands.Forget time) = forget-same base (forget_refusal one time) _ _ (forgotten-same (forgetting_of one time))

  pub moved-same : (now : Option ℕ) (a b : Result Answered Refusal) → outcome_base base a ≡ outcome_base base b → outcome_base base (unless_moved now a) ≡ outcome_base base (unless_moved now b)
  moved-same None a b same = same
  moved-same (Some now) a b same = refl

  pub another-same : (worker : Option ℕ) (a b : Result Answered Refusal) → outcome_base base a ≡ outcome_base base b → outcome_base base (unless_of_another worker a) ≡ outcome_base base (unless_of_another worker b)
  another-same None a b same = same
  another-same (Some worker) a b same = refl

abbrev pub request_base : OpenSession → Result Request DocFault → Base
request_base session (Err fault) = base_of session
request_base session (Ok request) = outcome_base (base_of session) (outcome_of_request session request)

pub request-goes : (session : OpenSession) (asked : Result Request DocFault) → Goes (base_of session) (request_base session asked)
request-goes session (Err fault) = inl refl
request-goes session (Ok request) =
    moved-goes (base_of session) (moved_to session.numbering (now_in session.database) request.expected) _
    (another-goes (base_of session) (other_worker (repair_worker_told request.command) (repair_worker_of session.database)) _ (carried-goes session request.worker request.command))

pub request-same : (base : Base) (v w : Bool) (r q : List Record) (m l n k : ℕ) (asked : Result Request DocFault) → request_base (session_of base v r m n) asked ≡ request_base (session_of base w q l k) asked
request-same base v w r q m l n k (Err fault) = refl
request-same base v w r q m l n k (Ok request) =
    moved-same base v w r q m l n k (moved_to base.numbering (now_in base.database) request.expected) _ _
    (another-same base v w r q m l n k (other_worker (repair_worker_told request.command) (repair_worker_of base.database)) _ _ (carried-same base v w r q m l n k request.worker request.command))

-- the session after a request is open, and this is what becomes of its database
pub record Next (session : OpenSession) (asked : Result Request DocFault) : Type 0 where
  pub next : OpenSession
  pub is : (turn_by_request session asked).session ≡ Open next
  pub base : base_of next ≡ request_base session asked

pub outcome-next : (session : OpenSession) (outcome : Result Answered Refusal) → (next : OpenSession) × ((turn_by_outcome session outcome).session ≡ Open next) × (base_of next ≡ outcome_base (base_of session) outcome)
outcome-next session (Ok answered) = (answered.session, refl, refl)
outcome-next session (Err refusal) = (session, refl, refl)

pub request-next : (session : OpenSession) (asked : Result Request DocFault) → Next session asked
request-next session (Err fault) = record { next = session; is = refl; base = refl }
request-next session (Ok request) =
    let n = outcome-next session (outcome_of_request session request) in
    record { next = n.0; is = n.1; base = n.2 }

-- ---- what only reads leaves the database as it is

pub refused-stays : (base : Base) (refusal : Option DbError) (a : Answered) → base_of a.session ≡ base → outcome_base base (unless_refused refusal a) ≡ base
refused-stays base None a same = same
refused-stays base (Some error) a same = refl

pub moved-stays : (base : Base) (now : Option ℕ) (outcome : Result Answered Refusal) → outcome_base base outcome ≡ base → outcome_base base (unless_moved now outcome) ≡ base
moved-stays base None outcome same = same
moved-stays base (Some now) outcome same = refl

pub another-stays : (base : Base) (worker : Option ℕ) (outcome : Result Answered Refusal) → outcome_base base outcome ≡ base → outcome_base base (unless_of_another worker outcome) ≡ base
another-stays base None outcome same = same
another-stays base (Some worker) outcome same = refl

pub carried-stays : (session : OpenSession) (worker : ℕ) (command : Command) → is_read_only command ≡ true → outcome_base (base_of session) (carried_out session worker command) ≡ base_of session
carried-stays session worker (commands.Write action stamp) reads = cc
carried-stays session worker (commands.Read q at generation page) reads = read-stays session worker q generation at page
carried-stays session worker (commands.Preview q page) reads = previewed-stays session page (right_preview_of session.database q)
carried-stays session worker (commands.Begin told) reads = cc
carried-stays session worker (commands.Step most told) reads = cc
carried-stays session worker (commands.Finish told) reads = cc
carried-stays session worker (commands.Abort told) reads = cc
carried-stays session worker commands.Status reads = refl
carried-stays session worker (commands.Slots from to filter) reads = refl
carried-stays session worker (commands.Changes page) reads = refl
carried-stays session worker (commands.NextChanges page) reads = refused-stays (base_of session) (unless_repairing (state_in session).phase) _ refl
carried-stays session worker commands.Tables reads = refl
carried-stays session worker (commands.Why generation page) reads = why-stays session generation page
carried-stays session worker (commands.Diff generation page) reads = diff-stays session generation page
carried-stays session worker (commands.Would told) reads = would-stays session told
carried-stays session worker (commands.Forget time) reads = cc

pub request-stays : (session : OpenSession) (asked : Result Request DocFault) → asks_read_only asked ≡ true → request_base session asked ≡ base_of session
request-stays session (Err fault) reads = refl
request-stays session (Ok request) reads =
    moved-stays (base_of session) (moved_to session.numbering (now_in session.database) request.expected) _
    (another-stays (base_of session) (other_worker (repair_worker_told request.command) (repair_worker_of session.database)) _ (carried-stays session request.worker request.command reads))

pub reads-base : (session next : OpenSession) (asked : Result Request DocFault) → Open next ≡ (turn_by_request session asked).session → asks_read_only asked ≡ true → base_of next ≡ base_of session
reads-base session next asked is reads =
    let n = request-next session asked in
    ap base_of (open-same next n.next (is ∙ n.is)) ∙ n.base ∙ request-stays session asked reads

pub reads-stay : (session next : OpenSession) (asked : Result Request DocFault) → Open next ≡ (turn_by_request session asked).session → asks_read_only asked ≡ true → next.database ≡ session.database
reads-stay session next asked is reads = ap (λ (b : Base). b.database) (reads-base session next asked is reads)

pub reads-tell : (session next : OpenSession) (asked : Result Request DocFault) → Open next ≡ (turn_by_request session asked).session → asks_read_only asked ≡ true → next.numbering ≡ session.numbering
reads-tell session next asked is reads = ap (λ (b : Base). b.numbering) (reads-base session next asked is reads)
