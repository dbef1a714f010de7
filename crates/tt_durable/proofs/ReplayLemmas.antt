-- What a session logs is read back: a line makes the same entries again, whatever was only read between, since what becomes of the database and of the stamps depends on these alone.
use Rattle.std.proofs.Common.{◌≡◌, ◌⊎◌, ℕ, ◌+◌, ◌==◌, ◌&&◌, Bool, true, false, not, cond, List, [], ◌∷◌, ◌++◌, length, append-nil, Result, Ok, Err, inl, inr, refl, sym, ap, ◌∙◌, subst}
use Rattle.serde_json.specs.Data.{Data}
use Rattle.tt_db.specs.Database.{Database}
use Rattle.tt_grammar.specs.declared.fault.DocFault.{DocFault}
use Rattle.tt_grammar.specs.Version.{newest_version}
use Rattle.tt_requests.specs.declared.opening.Opening.{Opening}
use Rattle.tt_requests.specs.Numbers.{Numbering}
use Rattle.tt_requests.specs.declared.request.Request.{Request}
use Rattle.tt_requests.specs.Lines.{is_passed_over, is_too_long}
use Rattle.tt_requests.specs.LineValue.{value_of_line}
use Rattle.tt_requests.specs.Opening.{opening_of}
use Rattle.tt_requests.specs.Requests.{request_of}
use Rattle.tt_requests.specs.SessionLine.{is_opening}
use Rattle.tt_session.specs.declared.session.Session.{Session}
use Rattle.tt_session.specs.declared.session.Session.TheVariants.{NotOpen, Open}
use Rattle.tt_session.specs.Answering.{LineRead, forgets_by, turn_without_log, turn_of_read, turns_of}
use Rattle.tt_session.specs.Changing.{entries_of, horizon_of, changes_database}
use Rattle.tt_session.specs.LogLines.{lines_of_log}
use Rattle.tt_session.specs.Logged.{with_line_if, logged_by, makes_log_anew, log_next, log_after}
use Rattle.tt_commands.specs.Reading.{read}
use Rattle.tt_durable.specs.Restoring.{repeated, restored, IsAlike, IsLike, IsLogOf, NewLogsAreRead, LogsAreReadBack}
use Rattle.tt_session.specs.Run.{Turn, turn_by_opening, turn_by_reopening, turn_by_request, turn_by_value, turn_without_memory}
use Rattle.tt_commands.specs.Session.{OpenSession, request_in, counted, opened}
use Rattle.tt_session.proofs.LoggedLemmas.{same-entries}
use Rattle.tt_durable.proofs.RestoringLemmas.{reads-push, read-value}
use Rattle.tt_session.proofs.TurnLemmas.{turn-request, reopening-next}
use Rattle.tt_session.proofs.BaseLemmas.{Goes, Base, base_of, request_base, session_of, request-goes, request-next, request-same}

two-requests : (s t : OpenSession) (asked : Result Request DocFault) → base_of t ≡ base_of s → request_base (counted t) asked ≡ request_base (counted s) asked
two-requests s t asked same =
    request-same (base_of t) t.has_opening s.has_opening t.records s.records t.most_records s.most_records (t.calls + 1) (s.calls + 1) asked
    ∙ ap (λ (base : Base). request_base (session_of base s.has_opening s.records s.most_records (s.calls + 1)) asked) same

-- ---- a session that was read back beside one that goes on

base-alike : (s t : OpenSession) → base_of t ≡ base_of s → IsAlike t s
base-alike s t same = record { database = ap (λ (b : Base). b.database) same; numbering = ap (λ (b : Base). b.numbering) same; stamps = ap (λ (b : Base). b.stamps) same }

alike-base : (s t : OpenSession) → IsAlike t s → base_of t ≡ base_of s
alike-base s t like = λ i. record { database = like.database i; numbering = like.numbering i; stamps = like.stamps i }

like-entries : (read session : Session) → IsLike read session → entries_of read ≡ entries_of session
like-entries read NotOpen m = ap entries_of m
like-entries read (Open session) m = ap entries_of m.1 ∙ ap (λ (db : Database). length db.history + 1) m.2.database

like-horizon : (read session : Session) → IsLike read session → horizon_of read ≡ horizon_of session
like-horizon read NotOpen m = ap horizon_of m
like-horizon read (Open session) m = ap horizon_of m.1 ∙ ap (λ (n : Numbering). n.horizon) m.2.numbering

-- after a line: it changes nothing, and the two still match; or it makes one, and they match once it is replayed
abbrev Follows : Session → Session → Session → Session → Type 0
Follows replayed session again next =
    (IsLike replayed next × (changes_database session next ≡ false)) ⊎ (IsLike again next × (changes_database session next ≡ true))

opening-follows : (asked : Result Opening DocFault) → Follows NotOpen NotOpen (turn_by_opening asked).session (turn_by_opening asked).session
opening-follows (Err fault) = inl (refl, refl)
opening-follows (Ok opening) = inr ((opened opening, refl, record { database = refl; numbering = refl; stamps = refl }), refl)

-- an opening leaves an open session as far as it was
reopening-follows : (replayed : Session) (session : OpenSession) (again : Session) (asked : Result Opening DocFault) → IsLike replayed (Open session)
    → Follows replayed (Open session) again (turn_by_reopening session asked).session
reopening-follows replayed session again asked m =
    let n = reopening-next session asked in
    subst (λ next. Follows replayed (Open session) again next) (sym n.is)
    (inl (
      (m.0, m.1, record { database = m.2.database ∙ sym n.database; numbering = m.2.numbering ∙ sym n.numbering; stamps = m.2.stamps ∙ sym n.stamps }),
      same-entries (Open session) (Open n.next) (ap (λ (db : Database). length db.history + 1) n.database) (ap (λ (told : Numbering). told.horizon) n.numbering),
    ))

-- two open sessions with the same database and stamps, whose numbers are told alike, are asked the same
request-follows : (replayed : Session) (s t : OpenSession) (value : Result Data DocFault) → replayed ≡ Open t → base_of t ≡ base_of s → is_opening value ≡ false
    → Follows replayed (Open s) (turn_by_value replayed value).session (turn_by_request (counted s) (request_in s value)).session
request-follows replayed s t value is same no_opening =
    let asked = request_in s value in
    let tables : t.database.catalog ≡ s.database.catalog = ap (λ (base : Base). base.database.catalog) same in
    let theirs_is : request_in t value ≡ asked = ap (λ ts. request_of newest_version ts value) tables in
    let one = request-next (counted s) asked in
    let other = request-next (counted t) asked in
    let bases : base_of other.next ≡ base_of one.next = other.base ∙ two-requests s t asked same ∙ sym one.base in
    let again_is : again ≡ Open other.next =
    ap (λ x. (turn_by_value x value).session) is ∙ ap (λ (turn : Turn). turn.session) (turn-request t value no_opening) ∙ ap (λ r. (turn_by_request (counted t) r).session) theirs_is ∙ other.is in
    subst (λ next. Follows replayed (Open s) again next) (sym one.is)
    (go one.next other.next again_is bases (subst (Goes (base_of s)) (sym one.base) (request-goes (counted s) asked)))
  where
    again : Session
    again = (turn_by_value replayed value).session

    go : (next theirs : OpenSession) → again ≡ Open theirs → base_of theirs ≡ base_of next → Goes (base_of s) (base_of next) → Follows replayed (Open s) again (Open next)
    go next theirs again_is bases (inl stays) =
        inl ((t, is, base-alike next t (same ∙ sym stays)), same-entries (Open s) (Open next) (ap (λ (base : Base). length base.database.history + 1) stays) (ap (λ (base : Base). base.numbering.horizon) stays))
    go next theirs again_is bases (inr other) =
        inr ((theirs, again_is, base-alike next theirs bases), ap not other)

value-follows : (replayed session : Session) (value : Result Data DocFault) → IsLike replayed session
    → Follows replayed session (turn_by_value replayed value).session (turn_by_value session value).session
value-follows replayed NotOpen value m =
    subst (λ x. Follows x NotOpen (turn_by_value x value).session (turn_by_opening (opening_of value)).session) (sym m) (opening-follows (opening_of value))
value-follows replayed (Open session) value m = go (is_opening value) refl
  where
    again : Session
    again = (turn_by_value replayed value).session

    go : (b : Bool) → is_opening value ≡ b
        → Follows replayed (Open session) again (cond b (turn_by_reopening session (opening_of value)) (turn_by_request (counted session) (request_in session value))).session
    go true opening = reopening-follows replayed session again (opening_of value) m
    go false request = request-follows replayed session m.0 value m.1 (alike-base session m.0 m.2) request

-- a line that is lost changes no database
lost-follows : (was_opening : Bool) (replayed session again : Session) → IsLike replayed session → Follows replayed session again (turn_without_memory was_opening session).session
lost-follows was_opening replayed NotOpen again m = inl (m, refl)
lost-follows true replayed (Open session) again m = inl (m, same-entries (Open session) (Open session) refl refl)
lost-follows false replayed (Open session) again m = inl ((m.0, m.1, record { database = m.2.database; numbering = m.2.numbering; stamps = m.2.stamps }), same-entries (Open session) (Open (counted session)) refl refl)

-- and neither does one for which the log couldn't be made anew
unlogged-follows : (replayed session again : Session) → IsLike replayed session → Follows replayed session again (turn_without_log session).session
unlogged-follows replayed NotOpen again m = inl (m, refl)
unlogged-follows replayed (Open session) again m = inl ((m.0, m.1, record { database = m.2.database; numbering = m.2.numbering; stamps = m.2.stamps }), same-entries (Open session) (Open (counted session)) refl refl)

read-follows : (replayed session : Session) (read : LineRead) → IsLike replayed session
    → Follows replayed session (repeated replayed read.line) (turn_of_read session read).session
read-follows replayed session read m = passed (is_passed_over read.line) refl
  where
    unlogged : (b : Bool) → is_passed_over read.line ≡ false
        → Follows replayed session (repeated replayed read.line) (cond b (turn_without_log session) (turn_by_value session (value_of_line read.line))).session
    unlogged true told = unlogged-follows replayed session _ m
    unlogged false told =
        subst (λ (t : Turn). Follows replayed session t.session (turn_by_value session (value_of_line read.line)).session) (sym (read-value replayed read.line told))
        (value-follows replayed session (value_of_line read.line) m)

    lost : (b : Bool) → is_passed_over read.line ≡ false
        → Follows replayed session (repeated replayed read.line)
        (cond b (turn_without_memory (read.as_opening && is_opening (value_of_line read.line)) session) (cond (read.is_unlogged && forgets_by session read.line) (turn_without_log session) (turn_by_value session (value_of_line read.line)))).session
    lost true told = lost-follows (read.as_opening && is_opening (value_of_line read.line)) replayed session _ m
    lost false told = unlogged (read.is_unlogged && forgets_by session read.line) told

    passed : (b : Bool) → is_passed_over read.line ≡ b
        → Follows replayed session (repeated replayed read.line)
        (cond b (record { text = []; session = session }) (cond (not (is_too_long read.line) && read.is_lost) (turn_without_memory (read.as_opening && is_opening (value_of_line read.line)) session)
        (cond (read.is_unlogged && forgets_by session read.line) (turn_without_log session) (turn_by_value session (value_of_line read.line))))).session
    passed true told = inl (m, same-entries session session refl refl)
    passed false told = lost (not (is_too_long read.line) && read.is_lost) told

-- ---- all lines

-- one line more: the log is one of the session after it
log-next-read : (lines : List (List ℕ)) (session : Session) (read : LineRead) → IsLogOf lines session
    → (makes_log_anew session read ≡ true → IsLogOf (lines_of_log (turn_of_read session read).session) (turn_of_read session read).session)
    → IsLogOf (log_next lines session read) (turn_of_read session read).session
log-next-read lines session read p new = anew (makes_log_anew session read) refl
  where
    next : Session
    next = (turn_of_read session read).session

    again : Session
    again = repeated p.read read.line

    plain : Follows p.read session again next → IsLogOf (lines ++ logged_by session next read.line) next
    plain (inl (like, none)) =
        subst (λ b. IsLogOf (lines ++ with_line_if b read.line []) next) (sym none)
        (subst (λ ls. IsLogOf ls next) (sym (append-nil lines)) (record { read = p.read; reads = p.reads; alike = like }))
    plain (inr (like, made)) =
        let changes : changes_database p.read again ≡ true =
        (λ i. not ((like-entries again next like i == like-entries p.read session p.alike i) && (like-horizon again next like i == like-horizon p.read session p.alike i))) ∙ made in
        subst (λ b. IsLogOf (lines ++ with_line_if b read.line []) next) (sym made) (record { read = again; reads = reads-push lines p.read read.line p.reads changes; alike = like })

    anew : (b : Bool) → makes_log_anew session read ≡ b → IsLogOf (cond b (lines_of_log next) (lines ++ logged_by session next read.line)) next
    anew true made = new made
    anew false none = plain (read-follows p.read session read p.alike)

read-back : (front others : List LineRead) (lines : List (List ℕ)) (session : Session) → IsLogOf lines session → NewLogsAreRead session (front ++ others)
    → IsLogOf (log_after lines session front) (turns_of session front).session
read-back [] others lines session p new = p
read-back (read ∷ front) others lines session p new =
    read-back front others (log_next lines session read) (turn_of_read session read).session (log-next-read lines session read p new.0) new.1

restored-like : (session : Session) → IsLike session (restored session)
restored-like NotOpen = refl
restored-like (Open session) = (session, refl, record { database = refl; numbering = refl; stamps = refl })

pub logs_are_read_back : LogsAreReadBack
logs_are_read_back lines start front others r new =
    let like = subst (IsLike r.after) (sym r.session_is) (restored-like r.after) in
    read-back front others lines start (record { read = r.after; reads = r.reads; alike = like }) new
