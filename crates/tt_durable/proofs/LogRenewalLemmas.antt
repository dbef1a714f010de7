-- The lines of a log that is made anew are read back: they make the same database again, with the same stamps.
use Rattle.std.proofs.Common.{◌≡◌, ℕ, ◌+◌, ◌≤◌, ◌==◌, ◌&&◌, Bool, true, false, not, List, [], ◌∷◌, ◌++◌, length, take, drop, replicate, append-nil, append_assoc, length-append, Option, None, Some, option_and_then, is_none, Ok, All, refl, sym, ap, ◌∙◌, subst, arith, ne_eqb}
use Rattle.std.specs.Option.{option_map}
use Rattle.std.specs.List.{list_all}
use Rattle.std.proofs.lemmas.Bool.{and_parts}
use Rattle.std.proofs.lemmas.List.{length-map, take-append-drop, length-take-le, length-drop}
use Rattle.tt_values.specs.declared.action.Action.{Action}
use Rattle.tt_values.specs.declared.checking.CheckError.{CheckError}
use Rattle.tt_values.specs.Tables.{Tables, IsCatalog}
use Rattle.tt_values.specs.Action.{replies_of}
use Rattle.tt_values.specs.Check.{action_fault}
use Rattle.tt_generations.specs.TwoGenerations.{is_repairing}
use Rattle.tt_db.specs.declared.event.Event.TheVariants as events
use Rattle.tt_db.specs.declared.event.Entry.{Entry}
use Rattle.tt_db.specs.declared.errors.DbError.{DbError}
use Rattle.tt_db.specs.declared.errors.DbError.TheVariants as errors
use Rattle.tt_db.specs.Limits.{usual_limits}
use Rattle.tt_db.specs.State.{State, now_of, next_state, first_refusal, IsLegalFrom, IsLegal}
use Rattle.tt_db.specs.Database.{Database, state_of, now_in, current_of_db, refusal_of, with_entry}
use Rattle.tt_db.proofs.EntryLemmas.{after-push}
use Rattle.tt_horizon.specs.Forgetting.{entry_of, ground_worker}
use Rattle.tt_horizon.specs.GroundEntries.{inserts_alone, is_insert, is_inserted, is_empty, is_of_ground, AreGround, HasGround, emptied}
use Rattle.tt_horizon.specs.Laying.{with_entries}
use Rattle.tt_grammar.proofs.EveryLemmas.{Every, every}
use Rattle.tt_grammar.specs.ReadBack.{IsStorableAction}
use Rattle.tt_requests.specs.Numbers.{Numbering, IsNumbering}
use Rattle.tt_requests.specs.LineValue.{value_of_line}
use Rattle.tt_requests.specs.declared.request.Command.TheVariants as commands
use Rattle.tt_requests.specs.declared.log_opening.LogOpening.{LogOpening}
use Rattle.tt_requests.specs.Opening.{max_keep, max_records}
use Rattle.tt_requests.specs.LogOpening.{max_ground_slots}
use Rattle.tt_answers.specs.LogText.{log_opening_line, ground_line, slot_line}
use Rattle.tt_session.specs.declared.session.Session.TheVariants.{Open}
use Rattle.tt_commands.specs.declared.terms.Terms.{Terms}
use Rattle.tt_commands.specs.Session.{OpenSession, Forgetting, counted, with_database}
use Rattle.tt_commands.specs.Commands.{written}
use Rattle.tt_session.specs.Changing.{changes_database}
use Rattle.tt_commands.specs.Room.{refusal_in_session}
use Rattle.tt_commands.specs.Repairing.{with_event, unless_refused}
use Rattle.tt_session.specs.Run.{Turn, turn_by_outcome, turn_by_request}
use Rattle.tt_session.specs.LogLines.{action_in, line_of_ground, lines_of_ground, stamped_entries, line_of_further, lines_of_further, lines_of_database, lines_of_log}
use Rattle.tt_commands.specs.Grounds.{opened_on, can_be_laid, with_ground}
use Rattle.tt_durable.specs.Restoring.{laid_by, laid_by_lines, repeated, repeated_all, AllChange, IsLogOf}
use Rattle.tt_commands.specs.Sound.{IsSound}
use Rattle.tt_commands.specs.Stamps.{EndsStamped}
use Rattle.tt_durable.specs.Renewing.{IsPrintable, IsFurtherPrintable, IsReadable}
use Rattle.tt_durable.proofs.StampLemmas.{stamps_read, read-same, length-read, none-laid, one-laid, all-laid, places-between, now-unstamped, now-stamped}
use Rattle.tt_durable.proofs.LogReadLemmas.{printed_log_opens, printed_ground_is_read, printed_slots_are_read}
use Rattle.tt_session.proofs.TurnLemmas.{turn-request, asked-request}
use Rattle.tt_durable.proofs.RestoringLemmas.{read-value}
use Rattle.tt_commands.proofs.StepLemmas.{accepted_in_session}

-- ---- an action that a database without a repair doesn't refuse

state-push : (db : Database) (worker : ℕ) (action : Action) → state_of (with_event db worker (events.Write action)) ≡ next_state db.limits (state_of db) (events.Write action)
state-push db worker action = after-push db.limits db.history (record { worker = worker; event = events.Write action })

-- there is one slot more
now-push : (db : Database) (worker : ℕ) (action : Action) → now_in (with_event db worker (events.Write action)) ≡ now_in db + 1
now-push db worker action = ap now_of (state-push db worker action) ∙ length-append (state_of db).slots (Some action ∷ [])

-- there is still no repair
idle-push : (db : Database) (worker : ℕ) (action : Action) → is_repairing (state_of db).phase ≡ false → is_repairing (state_of (with_event db worker (events.Write action))).phase ≡ false
idle-push db worker action idle = ap (λ (S : State). is_repairing S.phase) (state-push db worker action) ∙ idle

accepted : (db : Database) (action : Action) → is_repairing (state_of db).phase ≡ false → refusal_of db (events.Write action) ≡ None → refusal_in_session db (events.Write action) ≡ None
accepted db action idle none = accepted_in_session db (events.Write action) none (rw idle refl)

fault-none : (fault : Option CheckError) (slots entries : Option DbError) → first_refusal (option_map errors.Statement fault ∷ slots ∷ entries ∷ []) ≡ None → fault ≡ None
fault-none None slots entries none = refl
fault-none (Some fault) slots entries none = cc

no-fault : (db : Database) (action : Action) → refusal_of db (events.Write action) ≡ None → action_fault db.catalog action.writes ≡ None
no-fault db action none = fault-none (action_fault db.catalog action.writes) _ _ none

not-true : (b : Bool) → not b ≡ true → b ≡ false
not-true true is = cc
not-true false is = refl

is-none : {X : Type 0} → (o : Option X) → is_none o ≡ true → o ≡ None
is-none None is = refl
is-none (Some x) is = cc

with_entries-push : (db : Database) (e : Entry) (entries : List Entry) → with_entries (with_entry db e) entries ≡ with_entries db (e ∷ entries)
with_entries-push db e entries = ap (λ h. record db { history = h }) (append_assoc db.history (e ∷ []) entries)

with_entries-none : (db : Database) → db ≡ with_entries db []
with_entries-none db = ap (λ h. record db { history = h }) (sym (append-nil db.history))

-- ---- the ground

record Lays (session : OpenSession) (entries : List Entry) : Type 0 where
  pub next : OpenSession
  pub laid : laid_by_lines session (lines_of_ground session.database.catalog entries) ≡ Some next
  pub database : next.database ≡ with_entries session.database entries
  pub numbering : next.numbering ≡ session.numbering
  pub stamps : next.stamps ≡ session.stamps
  pub most : next.most_records ≡ session.most_records
  pub idle : is_repairing (state_of next.database).phase ≡ false
  pub now : now_in next.database ≡ now_in session.database + length entries

lays-one : (session : OpenSession) (action : Action) → IsCatalog session.database.catalog → is_repairing (state_of session.database).phase ≡ false
    → is_of_ground session.database action ≡ true → IsStorableAction action
    → laid_by session (ground_line session.database.catalog action) ≡ Some (with_database session (with_event session.database ground_worker (events.Write action)))
lays-one session action catalog idle ground storable =
    let db = session.database in
    let parts = and_parts (inserts_alone action) (is_none (refusal_of db (events.Write action)) && list_all is_inserted (replies_of action (current_of_db db (now_in db)))) ground in
    let rest = and_parts (is_none (refusal_of db (events.Write action))) (list_all is_inserted (replies_of action (current_of_db db (now_in db)))) parts.1 in
    let none = is-none (refusal_of db (events.Write action)) rest.0 in
    let one = and_parts (not action.whole) (not (is_empty action.writes) && list_all is_insert action.writes) parts.0 in
    let read = printed_ground_is_read db.catalog action catalog (not-true action.whole one.0) (no-fault db action none) storable in
    let can : can_be_laid db action ≡ true = rw (parts.0, accepted db action idle none, rest.1) refl in
    ap (with_ground session) read.0 ∙ (rw can refl)

lays-all : (session : OpenSession) (entries : List Entry) → IsCatalog session.database.catalog → is_repairing (state_of session.database).phase ≡ false
    → AreGround session.database entries → Every IsPrintable entries → Lays session entries
lays-all session [] catalog idle ground printable = record {
  next = session;
  laid = refl;
  database = with_entries-none session.database;
  numbering = refl;
  stamps = refl;
  most = refl;
  idle = idle;
  now = none-laid (now_in session.database);
}
lays-all session (e ∷ entries) catalog idle ground printable =
    let db = session.database in
    let action : Action = ground.0.0 in
    let is : e ≡ entry_of ground_worker action = ground.0.1 in
    let same : action_in e ≡ action = ap action_in is in
    let next : OpenSession = with_database session (with_event db ground_worker (events.Write action)) in
    let one : laid_by session (line_of_ground db.catalog e) ≡ Some next =
    ap (λ a. laid_by session (ground_line db.catalog a)) same ∙ lays-one session action catalog idle ground.0.2 (subst IsStorableAction same printable.0.storable) in
    let rest = lays-all next entries catalog (idle-push db ground_worker action idle) (subst (λ d. AreGround (with_entry db d) entries) is ground.1) printable.1 in
    record {
      next = rest.next;
      laid = ap (λ o. option_and_then (λ s. laid_by_lines s (lines_of_ground db.catalog entries)) o) one ∙ rest.laid;
      database = rest.database ∙ with_entries-push db (entry_of ground_worker action) entries ∙ ap (λ d. with_entries db (d ∷ entries)) (sym is);
      numbering = rest.numbering;
      stamps = rest.stamps;
      most = rest.most;
      idle = rest.idle;
      now = one-laid (now_in db) (now_in next.database) (now_in rest.next.database) (length entries) rest.now (now-push db ground_worker action);
    }

-- ---- the slots behind it

-- the session after a slot
abbrev after_slot : OpenSession → Entry × Option ℕ → OpenSession
after_slot session slot = (written (counted session) slot.0.worker (action_in slot.0) slot.1).session

-- a session reads the line of a slot
record Takes (session : OpenSession) (slot : Entry × Option ℕ) : Type 0 where
  pub turn : repeated (Open session) (line_of_further session.database.catalog slot) ≡ Open (after_slot session slot)
  pub changes : changes_database (Open session) (repeated (Open session) (line_of_further session.database.catalog slot)) ≡ true
  pub database : (after_slot session slot).database ≡ with_entry session.database slot.0
  pub numbering : (after_slot session slot).numbering ≡ session.numbering

-- a session reads the lines of slots, and has these stamps then
record Repeats (session : OpenSession) (entries : List Entry) (slots : List (Entry × Option ℕ)) (stamps : List (Option ℕ)) : Type 0 where
  pub next : OpenSession
  pub all_change : AllChange (Open session) (lines_of_further session.database.catalog slots)
  pub session_is : repeated_all (Open session) (lines_of_further session.database.catalog slots) ≡ Open next
  pub database : next.database ≡ with_entries session.database entries
  pub numbering : next.numbering ≡ session.numbering
  pub stamps_are : next.stamps ≡ stamps

write-turn : (session : OpenSession) (worker : ℕ) (action : Action) (stamp : Option ℕ) → refusal_in_session session.database (events.Write action) ≡ None
    → (turn_by_request (counted session) (Ok (record { worker = worker; expected = None; command = commands.Write action stamp }))).session ≡ Open (written (counted session) worker action stamp).session
write-turn session worker action stamp none =
    ap (λ r. (turn_by_outcome (counted session) (unless_refused r (written (counted session) worker action stamp))).session) none

-- the stamp changes neither the database nor the numbers
write-database : (session : OpenSession) (worker : ℕ) (action : Action) (stamp : Option ℕ) → (written session worker action stamp).session.database ≡ with_event session.database worker (events.Write action)
write-database session worker action None = refl
write-database session worker action (Some s) = refl

write-numbering : (session : OpenSession) (worker : ℕ) (action : Action) (stamp : Option ℕ) → (written session worker action stamp).session.numbering ≡ session.numbering
write-numbering session worker action None = refl
write-numbering session worker action (Some s) = refl

longer-changes : (session : OpenSession) (worker : ℕ) (action : Action)
    → not ((length (with_event session.database worker (events.Write action)).history + 1 == length session.database.history + 1) && (session.numbering.horizon == session.numbering.horizon)) ≡ true
longer-changes session worker action =
    let h = session.database.history in
    let more : List Entry = h ++ record { worker = worker; event = events.Write action } ∷ [] in
    ap (λ b. not (b && (session.numbering.horizon == session.numbering.horizon)))
    (ne_eqb (length more + 1) (length h + 1) (λ e. omega (arith, e, length-append h (record { worker = worker; event = events.Write action } ∷ []))))

write-changes : (session : OpenSession) (worker : ℕ) (action : Action) (stamp : Option ℕ) → changes_database (Open session) (Open (written (counted session) worker action stamp).session) ≡ true
write-changes session worker action None = longer-changes session worker action
write-changes session worker action (Some s) = longer-changes session worker action

-- what isn't refused in a history isn't refused as it is read
not-refused : (db : Database) (e : Entry) → e ≡ entry_of e.worker (action_in e) → refusal_of db e.event ≡ None → refusal_of db (events.Write (action_in e)) ≡ None
not-refused db e is none = ap (refusal_of db) (sym (ap (λ (d : Entry). d.event) is)) ∙ none

takes-one : (session : OpenSession) (slot : Entry × Option ℕ) → IsCatalog session.database.catalog → is_repairing (state_of session.database).phase ≡ false
    → refusal_of session.database (events.Write (action_in slot.0)) ≡ None → IsFurtherPrintable slot → Takes session slot
takes-one session slot catalog idle none p =
    let db = session.database in
    let worker : ℕ = slot.0.worker in
    let action : Action = action_in slot.0 in
    let stamp : Option ℕ = slot.1 in
    let some : 1 ≤ worker = omega (arith, p.worker) in
    let read = printed_slots_are_read db.catalog worker action stamp catalog some p.worker_fits (no-fault db action none) p.entry.storable p.stamp_fits in
    let line : List ℕ = slot_line db.catalog worker action stamp in
    let turn : repeated (Open session) line ≡ Open (after_slot session slot) =
    ap (λ (t : Turn). t.session) (read-value (Open session) line read.1.not_passed_over ∙ turn-request session (value_of_line line) (asked-request session (value_of_line line) _ read.0))
    ∙ ap (λ r. (turn_by_request (counted session) r).session) read.0
    ∙ write-turn session worker action stamp (accepted db action idle none) in
    record {
      turn = turn;
      changes = ap (changes_database (Open session)) turn ∙ write-changes session worker action stamp;
      database = write-database (counted session) worker action stamp ∙ ap (with_entry db) (sym p.entry.is);
      numbering = write-numbering (counted session) worker action stamp;
    }

repeats-more : (session : OpenSession) (slot : Entry × Option ℕ) (entries : List Entry) (slots : List (Entry × Option ℕ)) (stamps : List (Option ℕ)) → Takes session slot
    → Repeats (after_slot session slot) entries slots stamps → Repeats session (slot.0 ∷ entries) (slot ∷ slots) stamps
repeats-more session slot entries slots stamps t rest =
    let db = session.database in
    let next : OpenSession = after_slot session slot in
    let tables : next.database.catalog ≡ db.catalog = ap (λ (d : Database). d.catalog) t.database in
    let lines : List (List ℕ) = lines_of_further db.catalog slots in
    record {
      next = rest.next;
      all_change = (t.changes, subst (λ s. AllChange s lines) (sym t.turn) (subst (λ ts. AllChange (Open next) (lines_of_further ts slots)) tables rest.all_change));
      session_is = ap (λ s. repeated_all s lines) t.turn ∙ subst (λ ts. repeated_all (Open next) (lines_of_further ts slots) ≡ Open rest.next) tables rest.session_is;
      database = rest.database ∙ ap (λ d. with_entries d entries) t.database ∙ with_entries-push db slot.0 entries;
      numbering = rest.numbering ∙ t.numbering;
      stamps_are = rest.stamps_are;
    }

-- what is legal behind an entry is so behind the slot that is read
legal-push : (db : Database) (e : Entry) (entries : List Entry) → e ≡ entry_of e.worker (action_in e) → IsLegalFrom db.catalog db.limits (next_state db.limits (state_of db) e.event) entries
    → IsLegalFrom db.catalog db.limits (state_of (with_event db e.worker (events.Write (action_in e)))) entries
legal-push db e entries is legal =
    subst (λ S. IsLegalFrom db.catalog db.limits S entries)
    (ap (λ (d : Entry). next_state db.limits (state_of db) d.event) is ∙ sym (state-push db e.worker (action_in e))) legal

-- the stamps that are still to be read, and how many slots without one are read behind the last one that has one
repeats-all : (session : OpenSession) (entries : List Entry) (left : List (Option ℕ)) (without : ℕ) → IsCatalog session.database.catalog → is_repairing (state_of session.database).phase ≡ false
    → IsLegalFrom session.database.catalog session.database.limits (state_of session.database) entries → Every IsFurtherPrintable (stamped_entries entries left) → length left ≤ length entries
    → now_in session.database ≡ session.numbering.ground_slots + (length session.stamps + without)
    → Repeats session entries (stamped_entries entries left) (stamps_read session.stamps without left)
repeats-all session [] [] without catalog idle legal printable few now = record {
  next = session;
  all_change = tt;
  session_is = refl;
  database = with_entries-none session.database;
  numbering = refl;
  stamps_are = refl;
}
repeats-all session [] (stamp ∷ left) without catalog idle legal printable few now = absurd (omega (arith, few))
repeats-all session (e ∷ entries) [] without catalog idle legal printable few now =
    let db = session.database in
    let p = printable.0 in
    let later = now-unstamped (now_in db) (now_in (with_event db e.worker (events.Write (action_in e)))) session.numbering.ground_slots (length session.stamps) without now (now-push db e.worker (action_in e)) in
    repeats-more session (e, None) entries (stamped_entries entries []) session.stamps (takes-one session (e, None) catalog idle (not-refused db e p.entry.is legal.0) p)
    (repeats-all (after_slot session (e, None)) entries [] (without + 1) catalog (idle-push db e.worker (action_in e) idle) (legal-push db e entries p.entry.is legal.1) printable.1 (omega arith) later)
repeats-all session (e ∷ entries) (None ∷ left) without catalog idle legal printable few now =
    let db = session.database in
    let p = printable.0 in
    let later = now-unstamped (now_in db) (now_in (with_event db e.worker (events.Write (action_in e)))) session.numbering.ground_slots (length session.stamps) without now (now-push db e.worker (action_in e)) in
    repeats-more session (e, None) entries (stamped_entries entries left) (stamps_read session.stamps (without + 1) left) (takes-one session (e, None) catalog idle (not-refused db e p.entry.is legal.0) p)
    (repeats-all (after_slot session (e, None)) entries left (without + 1) catalog (idle-push db e.worker (action_in e) idle) (legal-push db e entries p.entry.is legal.1) printable.1 (omega (arith, few)) later)
repeats-all session (e ∷ entries) (Some s ∷ left) without catalog idle legal printable few now =
    let db = session.database in
    let p = printable.0 in
    let next : OpenSession = after_slot session (e, Some s) in
    let read : List (Option ℕ) = session.stamps ++ replicate without None ++ Some s ∷ [] in
    let stamps_are : next.stamps ≡ read =
    ap (λ n. session.stamps ++ replicate n None ++ Some s ∷ []) (places-between (now_in db) session.numbering.ground_slots (length session.stamps) without now) in
    let later =
    now-stamped (now_in db) (now_in (with_event db e.worker (events.Write (action_in e)))) session.numbering.ground_slots (length session.stamps) (length next.stamps) without now
    (now-push db e.worker (action_in e)) (ap length stamps_are ∙ length-read session.stamps without s) in
    let rest = repeats-all next entries left 0 catalog (idle-push db e.worker (action_in e) idle) (legal-push db e entries p.entry.is legal.1) printable.1 (omega (arith, few)) later in
    repeats-more session (e, Some s) entries (stamped_entries entries left) (stamps_read read 0 left) (takes-one session (e, Some s) catalog idle (not-refused db e p.entry.is legal.0) p)
    (subst (λ stamps. Repeats next entries (stamped_entries entries left) (stamps_read stamps 0 left)) stamps_are rest)

-- ---- the whole log

legal-behind : (tables : Tables) (db : Database) (first others : List Entry) → IsLegalFrom tables db.limits (state_of db) (first ++ others) → IsLegalFrom tables db.limits (state_of (with_entries db first)) others
legal-behind tables db [] others legal = subst (λ d. IsLegalFrom tables db.limits (state_of d) others) (with_entries-none db) legal
legal-behind tables db (e ∷ first) others legal =
    subst (λ d. IsLegalFrom tables db.limits (state_of d) others) (with_entries-push db e first)
    (legal-behind tables (with_entry db e) first others (subst (λ S. IsLegalFrom tables db.limits S (first ++ others)) (sym (after-push db.limits db.history e)) legal.1))

-- a database that is all actions, the first of which are its ground, and each of which is printed and read back with its stamp
pub record IsLoggable (db : Database) (size : ℕ) (stamps : List (Option ℕ)) : Type 0 where
  pub catalog : IsCatalog db.catalog
  pub legal : IsLegal db.catalog db.limits db.history
  pub usual : record usual_limits { keep = db.limits.keep } ≡ db.limits
  pub keep : db.limits.keep ≤ max_keep
  pub few : size ≤ max_ground_slots
  pub within : size ≤ length db.history
  pub ground : HasGround db size
  pub ground_printable : All IsPrintable (take size db.history)
  pub slots_printable : All IsFurtherPrintable (stamped_entries (drop size db.history) stamps)
  pub few_stamps : length stamps + size ≤ length db.history
  pub ends_stamped : EndsStamped stamps

pub log-of : (session : OpenSession) → IsLoggable session.database session.numbering.ground_slots session.stamps → IsNumbering session.numbering → session.most_records ≤ max_records
    → IsLogOf (lines_of_log (Open session)) (Open session)
log-of session p numbered few =
    let db = session.database in
    let size = session.numbering.ground_slots in
    let first = take size db.history in
    let others = drop size db.history in
    let log : LogOpening = record { opening = record { catalog = db.catalog; keep = db.limits.keep; records = session.most_records }; numbering = session.numbering } in
    let line : List ℕ = log_opening_line db.catalog db.limits.keep session.most_records session.numbering in
    let opens = printed_log_opens db.catalog db.limits.keep session.most_records session.numbering p.catalog p.keep few numbered p.few in
    let start : OpenSession = opened_on log in
    let begun : start.database ≡ emptied db = ap (λ l. record { catalog = db.catalog; limits = l; history = [] }) p.usual in
    let lays = lays-all start first p.catalog refl (subst (λ d. AreGround d first) (sym begun) p.ground) (every IsPrintable first p.ground_printable) in
    let base = lays.next in
    let based : base.database ≡ with_entries (emptied db) first = lays.database ∙ ap (λ d. with_entries d first) begun in
    let tables : base.database.catalog ≡ db.catalog = ap (λ (d : Database). d.catalog) based in
    let whole : first ++ others ≡ db.history = take-append-drop size db.history in
    let legal = legal-behind db.catalog (emptied db) first others (subst (λ h. IsLegalFrom db.catalog db.limits (state_of (emptied db)) h) (sym whole) p.legal) in
    let slots : List (Entry × Option ℕ) = stamped_entries others session.stamps in
    let few_left : length session.stamps ≤ length others = omega (arith, p.few_stamps, length-drop size db.history) in
    let now =
    all-laid (now_in base.database) (length first) base.numbering.ground_slots (length base.stamps) size lays.now (length-take-le size db.history p.within)
    (ap (λ (n : Numbering). n.ground_slots) lays.numbering) (ap length lays.stamps) in
    let repeats =
    repeats-all base others session.stamps 0 (subst IsCatalog (sym tables) p.catalog) lays.idle
    (subst (λ (d : Database). IsLegalFrom d.catalog d.limits (state_of d) others) (sym based) legal) (every IsFurtherPrintable slots p.slots_printable) few_left now in
    let ground_lines : List (List ℕ) = lines_of_ground db.catalog first in
    let slot_lines : List (List ℕ) = lines_of_further db.catalog slots in
    record {
      read = Open repeats.next;
      reads = record {
        first = line ∷ ground_lines;
        others = slot_lines;
        lines_are = refl;
        base = Open base;
        begins = record {
          line = line;
          slots = ground_lines;
          lines_are = refl;
          opening = log;
          opens = opens.read;
          count = omega (arith, length-map first (line_of_ground db.catalog), length-take-le size db.history p.within);
          laid = lays.laid;
        };
        ground_first = λ less. absurd (omega (arith, less));
        all_change = subst (λ t. AllChange (Open base) (lines_of_further t slots)) tables repeats.all_change;
        session_is = sym (subst (λ t. repeated_all (Open base) (lines_of_further t slots) ≡ Open repeats.next) tables repeats.session_is);
      };
      alike = (
        repeats.next,
        refl,
        record {
          database = repeats.database ∙ ap (λ d. with_entries d others) based ∙ ap (λ h. record db { history = h }) whole;
          numbering = repeats.numbering ∙ lays.numbering;
          stamps = repeats.stamps_are ∙ ap (λ stamps. stamps_read stamps 0 session.stamps) lays.stamps ∙ read-same session.stamps p.ends_stamped;
        },
      );
    }

-- the lines that are written are those of the database
pub lines-of : (f : Forgetting) (terms : Terms) (size : ℕ) (line : List ℕ) → line ≡ log_opening_line f.db.catalog f.db.limits.keep terms.most_records f.numbering → size ≡ f.numbering.ground_slots
    → (([] ++ line ∷ []) ++ lines_of_ground f.db.catalog (take size f.db.history)) ++ lines_of_further f.db.catalog (stamped_entries (drop size f.db.history) f.stamps)
    ≡ lines_of_database f.db f.numbering f.stamps terms
lines-of f terms size line line_is size_is =
    let tables = f.db.catalog in
    let h : List Entry = f.db.history in
    λ i. line_is i ∷ (lines_of_ground tables (take (size_is i) h) ++ lines_of_further tables (stamped_entries (drop (size_is i) h) f.stamps))

-- a log that is made for a session which forgets is one of that session
pub readable : (f : Forgetting) (terms : Terms) (size : ℕ) → IsSound f.db f.numbering [] 0 → HasGround f.db f.ground_slots → f.numbering.ground_slots ≡ f.ground_slots
    → record usual_limits { keep = f.db.limits.keep } ≡ f.db.limits → size ≡ f.numbering.ground_slots → size ≤ max_ground_slots → size ≤ length f.db.history
    → length f.stamps + size ≤ length f.db.history → EndsStamped f.stamps
    → All IsPrintable (take size f.db.history) → All IsFurtherPrintable (stamped_entries (drop size f.db.history) f.stamps) → IsReadable f terms
readable f terms size sound ground same usual size_is few within few_stamps ends first others = λ session database numbering stamps told fits.
    let loggable : IsLoggable f.db f.numbering.ground_slots f.stamps = subst (λ n. IsLoggable f.db n f.stamps) size_is (record {
      catalog = sound.catalog;
      legal = sound.legal;
      usual = usual;
      keep = sound.fits.keep;
      few = few;
      within = within;
      ground = subst (HasGround f.db) (sym (size_is ∙ same)) ground;
      ground_printable = first;
      slots_printable = others;
      few_stamps = few_stamps;
      ends_stamped = ends;
    }) in
    log-of session
    (subst (IsLoggable session.database session.numbering.ground_slots) (sym stamps)
    (subst (λ (n : Numbering). IsLoggable session.database n.ground_slots f.stamps) (sym numbering) (subst (λ d. IsLoggable d f.numbering.ground_slots f.stamps) (sym database) loggable)))
    (subst IsNumbering (sym numbering) sound.numbered) (subst (λ (t : Terms). t.most_records ≤ max_records) (sym told) fits)
