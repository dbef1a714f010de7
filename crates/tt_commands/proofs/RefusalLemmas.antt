-- The errors of the database that answer no line of a session.
use Rattle.std.proofs.Common.{◌≡◌, ℕ, ◌==◌, ◌||◌, Bool, true, false, cond, nat_lt, List, [], ◌∷◌, map, length, is_none, Option, None, Some, Result, Ok, Err, refl, sym, ap, subst, ◌∙◌, arith}
use Rattle.std.specs.List.{All}
use Rattle.std.specs.Option.{option_map, option_or, unwrap_or}
use Rattle.std.proofs.lemmas.List.{length-map}
use Rattle.std.proofs.lemmas.List.Elements.{All-nil, All-cons, All-head, All-tail}
use Rattle.tt_values.specs.declared.statement.Select.{Select}
use Rattle.tt_values.specs.declared.reply.Reply.{Reply}
use Rattle.tt_values.specs.declared.checking.CheckError.{CheckError}
use Rattle.tt_values.specs.Tables.{Tables}
use Rattle.tt_values.specs.Check.{action_fault}
use Rattle.tt_repair_laws.specs.declared.edit.Edit.{Edit}
use Rattle.tt_repair_laws.specs.Edits.{HasNoFault}
use Rattle.tt_repair_laws.specs.declared.edit.Edit.TheVariants.{Cancel, Replace}
use Rattle.tt_generations.specs.TwoGenerations.{Phase, Idle, Repairing, is_repairing}
use Rattle.tt_db.specs.declared.event.Event.TheVariants as events
use Rattle.tt_db.specs.declared.errors.DbError.{DbError}
use Rattle.tt_db.specs.declared.errors.DbError.TheVariants as errors
use Rattle.tt_db.specs.declared.errors.ReadError.{ReadError}
use Rattle.tt_db.specs.declared.errors.ReadError.TheVariants as read_errors
use Rattle.tt_db.specs.State.{slots_in, edits_fault, first_refusal, refused_if, unless_repairing}
use Rattle.tt_db.specs.Database.{now_in, repair_worker_of, right_preview_of}
use Rattle.tt_grammar.specs.Version.{newest_version}
use Rattle.tt_requests.specs.declared.request.Command.{Command}
use Rattle.tt_requests.specs.declared.request.Command.TheVariants as commands
use Rattle.tt_requests.specs.declared.request.Page.{Page}
use Rattle.tt_requests.specs.declared.request.ToldEdits.{ToldEdits}
use Rattle.tt_requests.specs.declared.told.ToldTime.{ToldTime}
use Rattle.tt_requests.specs.declared.told.ToldGeneration.{ToldGeneration}
use Rattle.tt_requests.specs.Numbers.{Numbering, number_limit, own_time, own_generation}
use Rattle.tt_requests.specs.Judged.{AreJudgedEdits, IsJudged}
use Rattle.tt_requests.proofs.LawProofs.{requests_are_judged}
use Rattle.tt_answers.specs.declared.answer.Refusal.{Refusal}
use Rattle.tt_answers.specs.declared.answer.Refusal.TheVariants as refusals
use Rattle.tt_answers.specs.declared.answer.Answer.{Answer}
use Rattle.tt_commands.specs.declared.asked_repair.AskedRepair.{AskedRepair}
use Rattle.tt_commands.specs.declared.asked_repair.AskedRepair.TheVariants.{UnderWay, Closing}
use Rattle.tt_commands.specs.AskedRepairs.{closing_in, asked_repair, answer_of}
use Rattle.tt_commands.specs.CauseEntries.{causes_answer}
use Rattle.tt_commands.specs.DiffEntries.{differences_answer}
use Rattle.tt_commands.specs.Session.{OpenSession, state_in}
use Rattle.tt_commands.specs.Answers.{Answered}
use Rattle.tt_commands.specs.Room.{refusal_in_session}
use Rattle.tt_commands.specs.Repairing.{unless_refused, other_worker, unless_of_another}
use Rattle.tt_commands.specs.Reading.{read, selected_by, previewed_by}
use Rattle.tt_commands.specs.ToldRequests.{no_generation, forgotten_in, asks_for_forgotten, read_at, read_in, read_as_told, missing_if_idle, unless_missing}
use Rattle.tt_requests.specs.ToldEdits.{own_edit}
use Rattle.tt_commands.specs.Forgetting.{unless_forget_refused}
use Rattle.tt_commands.specs.Commands.{written, carried_out, moved_to, unless_moved}
use Rattle.tt_requests.specs.Asked.{repair_worker_told}
use Rattle.tt_commands.specs.Invariants.{IsOpenSession}
use Rattle.tt_commands.specs.Laws.{answers_lines, OtherErrorsAnswerNoLine}
use Rattle.tt_commands.proofs.StepLemmas.{room-test}

same_error : (e d : DbError) → ◌≡◌ {A = Option DbError} (Some e) (Some d) → e ≡ d
same_error e d is = cc

answers-if : (e error : DbError) → answers_lines e ≡ true → ◌≡◌ {A = Option DbError} (Some e) (Some error) → answers_lines error ≡ true
answers-if e error can is = subst (λ d. answers_lines d ≡ true) (same_error e error is) can

-- ---- from what is answered back to the refusal

refusal-is : (refusal : Option DbError) (a : Answered) (error : DbError) → unless_refused refusal a ≡ Err (refusals.Event error) → refusal ≡ Some error
refusal-is None a error is = cc
refusal-is (Some e) a error is = cc

same-refusal : (e : DbError) (a : Answered) (error : DbError) → unless_forget_refused (Some (refusals.Event e)) a ≡ Err (refusals.Event error) → ◌≡◌ {A = Option DbError} (Some e) (Some error)
same-refusal e a error is = cc

moved-is : (now : Option ℕ) (outcome : Result Answered Refusal) (error : DbError) → unless_moved now outcome ≡ Err (refusals.Event error) → outcome ≡ Err (refusals.Event error)
moved-is None outcome error is = is
moved-is (Some now) outcome error is = cc

another-is : (worker : Option ℕ) (outcome : Result Answered Refusal) (error : DbError) → unless_of_another worker outcome ≡ Err (refusals.Event error) → outcome ≡ Err (refusals.Event error)
another-is None outcome error is = is
another-is (Some worker) outcome error is = cc

-- ---- the refusals of each command

write-error : (fault : Option CheckError) (slots entries room : Bool) (a b c : ℕ) (error : DbError) → fault ≡ None
    → option_or (first_refusal (option_map errors.Statement fault ∷ refused_if slots (errors.Full a) ∷ refused_if entries (errors.Full b) ∷ [])) (refused_if room (errors.Full c)) ≡ Some error
    → answers_lines error ≡ true
write-error (Some fault) slots entries room a b c error none is = cc
write-error None true entries room a b c error none is = answers-if (errors.Full a) error refl is
write-error None false true room a b c error none is = answers-if (errors.Full b) error refl is
write-error None false false true a b c error none is = answers-if (errors.Full c) error refl is
write-error None false false false a b c error none is = cc

begin-error : (fault : Option CheckError) (repairing : Bool) (missing twice : Option ℕ) (many entries room : Bool) (b c : ℕ) (error : DbError) → fault ≡ None → many ≡ false
    → option_or (first_refusal (option_map errors.Statement fault ∷ refused_if repairing errors.Repairing ∷ option_map errors.NoSlot missing ∷ option_map errors.EditTwice twice
    ∷ refused_if many errors.TooManyEdits ∷ refused_if entries (errors.Full b) ∷ [])) (refused_if room (errors.Full c)) ≡ Some error
    → answers_lines error ≡ true
begin-error (Some fault) repairing missing twice many entries room b c error none few is = cc
begin-error None true missing twice many entries room b c error none few is = answers-if errors.Repairing error refl is
begin-error None false (Some t) twice many entries room b c error none few is = answers-if (errors.NoSlot t) error refl is
begin-error None false None (Some t) many entries room b c error none few is = answers-if (errors.EditTwice t) error refl is
begin-error None false None None true entries room b c error none few is = cc
begin-error None false None None false true room b c error none few is = answers-if (errors.Full b) error refl is
begin-error None false None None false false true b c error none few is = answers-if (errors.Full c) error refl is
begin-error None false None None false false false b c error none few is = cc

idle-error : (phase : Phase) (a : Answered) (error : DbError) → unless_refused (unless_repairing phase) a ≡ Err (refusals.Event error) → answers_lines error ≡ true
idle-error Idle a error is = answers-if errors.NotRepairing error refl (refusal-is (Some errors.NotRepairing) a error is)
idle-error (Repairing edits n) a error is = cc

select-error : (session : OpenSession) (worker : ℕ) (q : Select) (generation : Option ℕ) (page : Page) (time : ℕ) (right : Result Reply ReadError) (error : DbError)
    → selected_by session worker q generation page time right ≡ Err (refusals.Event error) → answers_lines error ≡ true
select-error session worker q generation page time (Err fault) error is = cc
select-error session worker q generation page time (Ok reply) error is = cc

preview-error : (session : OpenSession) (page : Page) (right : Result Reply ReadError) (error : DbError)
    → previewed_by session page right ≡ Err (refusals.Event error) → answers_lines error ≡ true
preview-error session page (Err fault) error is = cc
preview-error session page (Ok reply) error is = cc

no_edits_fault : (tables : Tables) (edits : List Edit) → All (HasNoFault tables) edits → edits_fault tables edits ≡ None
no_edits_fault tables [] judged = refl
no_edits_fault tables (Cancel slot ∷ edits) judged = no_edits_fault tables edits (All-tail (HasNoFault tables) (Cancel slot) edits judged)
no_edits_fault tables (Replace slot action ∷ edits) judged =
    ap (λ f. option_or f (edits_fault tables edits)) (All-head (HasNoFault tables) (Replace slot action) edits judged)
    ∙ no_edits_fault tables edits (All-tail (HasNoFault tables) (Replace slot action) edits judged)

missing-is : (missing : Option ToldTime) (outcome : Result Answered Refusal) (error : DbError) → unless_missing missing outcome ≡ Err (refusals.Event error) → outcome ≡ Err (refusals.Event error)
missing-is None outcome error is = is
missing-is (Some slot) outcome error is = cc

read-at-error : (session : OpenSession) (worker : ℕ) (q : Select) (generation : Option ℕ) (at : Option ToldTime) (page : Page) (error : DbError)
    → read_at session worker q generation at page ≡ Err (refusals.Event error) → answers_lines error ≡ true
read-at-error session worker q generation at page error = go (asks_for_forgotten session.numbering at)
  where
    none : (gone : Bool) → ◌≡◌ {A = Result Answered Refusal} (Err (cond gone (no_generation session) refusals.Forgotten)) (Err (refusals.Event error)) → answers_lines error ≡ true
    none true is = cc
    none false is = cc

    go : (forgotten : Bool)
        → cond forgotten (Err (forgotten_in session (unwrap_or generation (state_in session).generation))) (read session worker q generation (option_map (own_time session.numbering) at) page) ≡ Err (refusals.Event error)
        → answers_lines error ≡ true
    go true = none (is_none (slots_in (state_in session) (unwrap_or generation (state_in session).generation)))
    go false = select-error session worker q generation page _ _ error

read-in-error : (session : OpenSession) (worker : ℕ) (q : Select) (number : Option ℕ) (at : Option ToldTime) (page : Page) (error : DbError)
    → read_in session worker q number at page ≡ Err (refusals.Event error) → answers_lines error ≡ true
read-in-error session worker q None at page error is = cc
read-in-error session worker q (Some number) at page error is = read-at-error session worker q (Some number) at page error is

read-as-told-error : (session : OpenSession) (worker : ℕ) (q : Select) (generation : Option ToldGeneration) (at : Option ToldTime) (page : Page) (error : DbError)
    → read_as_told session worker q generation at page ≡ Err (refusals.Event error) → answers_lines error ≡ true
read-as-told-error session worker q None at page error is = read-at-error session worker q None at page error is
read-as-told-error session worker q (Some generation) at page error is = read-in-error session worker q (own_generation session.numbering generation) at page error is

asked-is : {X : Type 0} (session : OpenSession) (answer : X → Answer) (asked : Result X Refusal) (error : DbError)
    → answer_of session answer asked ≡ Err (refusals.Event error) → asked ≡ Err (refusals.Event error)
asked-is session answer (Ok x) error is = cc
asked-is session answer (Err refusal) error is = cc

-- a repair that isn't there is refused as no read of it
closing-error : (session : OpenSession) (number : Option ℕ) (error : DbError) → closing_in session number ≡ Err (refusals.Event error) → answers_lines error ≡ true
closing-error session None error = λ is. cc
closing-error session (Some number) error = go ((number == (state_in session).generation) || is_none (slots_in (state_in session) number))
  where
    go : (gone : Bool) → ◌≡◌ {A = Result AskedRepair Refusal} (cond gone (Err (no_generation session)) (Ok (Closing number))) (Err (refusals.Event error)) → answers_lines error ≡ true
    go true is = cc
    go false is = cc

repair-error : (session : OpenSession) (generation : Option ToldGeneration) (error : DbError) → asked_repair session generation ≡ Err (refusals.Event error) → answers_lines error ≡ true
repair-error session None error = go (is_repairing (state_in session).phase)
  where
    go : (repairing : Bool) → ◌≡◌ {A = Result AskedRepair Refusal} (cond repairing (Ok UnderWay) (Err (refusals.Read read_errors.NotRepairing))) (Err (refusals.Event error)) → answers_lines error ≡ true
    go true is = cc
    go false is = cc
repair-error session (Some generation) error = closing-error session (own_generation session.numbering generation) error

forget-error : (repairing later forgotten full : Bool) (now : ℕ) (a : Answered) (error : DbError)
    → unless_forget_refused (cond repairing (Some (refusals.Event errors.Repairing)) (cond later (Some (refusals.Read (read_errors.Later now))) (cond forgotten (Some refusals.Forgotten)
    (cond full (Some (refusals.Event (errors.Full number_limit))) None)))) a ≡ Err (refusals.Event error)
    → answers_lines error ≡ true
forget-error true later forgotten full now a error is = answers-if errors.Repairing error refl (same-refusal errors.Repairing a error is)
forget-error false true forgotten full now a error is = cc
forget-error false false true full now a error is = cc
forget-error false false false true now a error is = answers-if (errors.Full number_limit) error refl (same-refusal (errors.Full number_limit) a error is)
forget-error false false false false now a error is = cc

-- edits of slots of the database have no fault where those that are told have none
own-judged : (tables : Tables) (numbering : Numbering) (edits : List Edit) → All (HasNoFault tables) edits → All (HasNoFault tables) (map (own_edit numbering) edits)
own-judged tables numbering [] judged = All-nil (HasNoFault tables)
own-judged tables numbering (e ∷ edits) judged =
    All-cons (HasNoFault tables) (own_edit numbering e) (map (own_edit numbering) edits) (own-one tables numbering e (All-head (HasNoFault tables) e edits judged))
    (own-judged tables numbering edits (All-tail (HasNoFault tables) e edits judged))
  where
    own-one : (tables : Tables) (numbering : Numbering) (e : Edit) → HasNoFault tables e → HasNoFault tables (own_edit numbering e)
    own-one tables numbering (Cancel slot) judged = tt
    own-one tables numbering (Replace slot action) judged = judged

-- the beginning of a repair whose edits have been judged
begun-error : (session : OpenSession) (told : ToldEdits) (error : DbError) (a : Answered) → IsOpenSession session → AreJudgedEdits session.database.catalog told.edits
    → unless_refused (refusal_in_session session.database (events.Begin (map (own_edit session.numbering) told.edits))) a ≡ Err (refusals.Event error) → answers_lines error ≡ true
begun-error session told error a sound judged is =
    let db = session.database in
    let edits = map (own_edit session.numbering) told.edits in
    let as_many : length edits ≡ length told.edits = length-map told.edits (own_edit session.numbering) in
    let few : nat_lt db.limits.edits (length edits) ≡ false = subst (λ n. nat_lt n (length edits) ≡ false) (sym sound.edits) (room-test _ (length edits) (omega (arith, as_many, judged.few))) in
    begin-error (edits_fault db.catalog edits) _ _ _ (nat_lt db.limits.edits (length edits)) _ _ _ _ error (no_edits_fault db.catalog edits (own-judged db.catalog session.numbering told.edits judged.accepted)) few
    (refusal-is (refusal_in_session db (events.Begin edits)) a error is)

error-of : (session : OpenSession) (worker : ℕ) (command : Command) (error : DbError) → IsOpenSession session → IsJudged session.database.catalog command
    → carried_out session worker command ≡ Err (refusals.Event error) → answers_lines error ≡ true
error-of session worker (commands.Write action stamp) error sound judged is =
    let db = session.database in
    write-error (action_fault db.catalog action.writes) _ _ _ _ _ _ error judged (refusal-is (refusal_in_session db (events.Write action)) (written session worker action stamp) error is)
error-of session worker (commands.Begin told) error sound judged is =
    begun-error session told error _ sound judged (missing-is (missing_if_idle session told.edits) _ error is)
error-of session worker (commands.Read q at generation page) error sound judged is = read-as-told-error session worker q generation at page error is
error-of session worker (commands.Preview q page) error sound judged is = preview-error session page (right_preview_of session.database q) error is
error-of session worker (commands.Step most told) error sound judged is = idle-error (state_in session).phase _ error is
error-of session worker (commands.Finish told) error sound judged is = idle-error (state_in session).phase _ error is
error-of session worker (commands.Abort told) error sound judged is = idle-error (state_in session).phase _ error is
error-of session worker (commands.NextChanges page) error sound judged is = idle-error (state_in session).phase _ error is
error-of session worker commands.Status error sound judged is = cc
error-of session worker (commands.Slots from to filter) error sound judged is = cc
error-of session worker (commands.Changes page) error sound judged is = cc
error-of session worker commands.Tables error sound judged is = cc
error-of session worker (commands.Why generation page) error sound judged is =
    repair-error session generation error (asked-is session (causes_answer session page) (asked_repair session generation) error is)
error-of session worker (commands.Diff generation page) error sound judged is =
    repair-error session generation error (asked-is session (differences_answer session page) (asked_repair session generation) error is)
error-of session worker (commands.Would told) error sound judged is =
    begun-error session told error _ sound judged (missing-is (missing_if_idle session told.edits) _ error is)
error-of session worker (commands.Forget time) error sound judged is = forget-error (is_repairing (state_in session).phase) _ _ _ _ _ error is

pub other_errors_answer_no_line : OtherErrorsAnswerNoLine
other_errors_answer_no_line session value request error sound read is =
    error-of session request.worker request.command error sound (requests_are_judged newest_version session.database.catalog value request read)
    (another-is (other_worker (repair_worker_told request.command) (repair_worker_of session.database)) (carried_out session request.worker request.command) error
    (moved-is (moved_to session.numbering (now_in session.database) request.expected) _ error is))
