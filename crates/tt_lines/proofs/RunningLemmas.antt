-- How a session between a reader and an outlet goes on.
use Rattle.std.proofs.Common.{◌≡◌, ℕ, ◌+◌, ◌-◌, ◌≤◌, ◌==◌, ◌&&◌, not, Bool, true, false, List, [], ◌∷◌, ◌++◌, length, take, drop, map, append-nil, append_assoc, Option, Some, refl, sym, ap, ◌∙◌, subst}
use Rattle.std.proofs.Math.Seq.{take-add}
use Rattle.std.proofs.lemmas.Bool.{and_from}
use Rattle.std.proofs.lemmas.List.{map-append, take_rest}
use Rattle.std.proofs.lemmas.List.Folds.{list_all-append}
use Rattle.std.specs.List.{list_all}
use Rattle.tt_requests.specs.Lines.{is_passed_over}
use Rattle.tt_session.specs.declared.session.Session.{Session}
use Rattle.tt_session.specs.declared.session.Session.TheVariants.{NotOpen, Open}
use Rattle.tt_lines.specs.declared.run.Run.{Run}
use Rattle.tt_lines.specs.Lines.{HasBytes}
use Rattle.tt_session.specs.Feeds.{has_no_feed, joined}
use Rattle.tt_requests.specs.LineValue.{value_of_line}
use Rattle.tt_requests.specs.Opening.{max_records}
use Rattle.tt_commands.specs.declared.terms.Terms.{Terms}
use Rattle.tt_requests.specs.declared.asked.ForgetRequest.{ForgetRequest}
use Rattle.tt_session.specs.declared.ready_to_forget.ReadyToForget.{ReadyToForget}
use Rattle.tt_session.specs.declared.short_answer.ShortAnswer.TheVariants as shorts
use Rattle.tt_session.specs.declared.lost_line.LostLine.TheVariants as losts
use Rattle.tt_session.specs.ShortAnswers.{short_text}
use Rattle.tt_commands.specs.Session.{OpenSession, Forgetting, terms_of, counted}
use Rattle.tt_commands.specs.Changes.{forgotten_by}
use Rattle.tt_requests.specs.Asked.{asks_to_forget}
use Rattle.tt_commands.specs.Forgetting.{forgets_nothing}
use Rattle.tt_lines.specs.Anew.{Forgets, IsReady}
use Rattle.tt_session.specs.Run.{Turn, calls_of, turn_by_request, turn_by_value, turn_with_memory, turn_without_memory, turn_of_long_line}
use Rattle.tt_session.specs.Answering.{LineRead, forgets_by, turn_of_read, turns_of, lines_read}
use Rattle.tt_session.specs.Changing.{changes_database}
use Rattle.tt_session.specs.Logged.{logged_by, logged_of, IsPlain, ArePlain, with_lines}
use Rattle.tt_session.specs.PendingLines.{no_lines}
use Rattle.tt_session.specs.Together.{kept_line, lost_line, unlogged_line, AnswersFront}
use Rattle.tt_lines.specs.Running.{Handing, Stands, Cuts, Serves, Rests, Halts, Takes, StopsIn, AnswersOne, StopsAt, HandsOver, StopsBetween, StandsOn, IsShort, HandsOverShort, StopsInShort}
use Rattle.tt_session.proofs.AnsweringLemmas.{forget-turn, turns_of-append, joined-append, read-kept, read-lost, read-unlogged}
use Rattle.tt_session.proofs.LineLemmas.{feed-more, rest_of}
use Rattle.tt_session.proofs.TurnLemmas.{turn-request, asked-request}
use Rattle.tt_session.specs.ForgetTurns.{turn_of_forget, TurnsForget, Prepares, AsksToForget, AnswersPlain}
use Rattle.tt_session.proofs.LoggedLemmas.{IsAsFar, with-nil, logged_of-append, none-logged, same-logged, same-next, plain-far, plain-append}

-- ---- lines that are read

pub turns-session : (start : Session) (first others : List LineRead) → (turns_of start (first ++ others)).session ≡ (turns_of (turns_of start first).session others).session
turns-session start first others = ap (λ (t : Turn). t.session) (turns_of-append start first others)

pub turns-text : (start : Session) (first others : List LineRead) → (turns_of start (first ++ others)).text ≡ (turns_of start first).text ++ (turns_of (turns_of start first).session others).text
turns-text start first others = ap (λ (t : Turn). t.text) (turns_of-append start first others)

pub one-text : (session : Session) (read : LineRead) → (turns_of session (read ∷ [])).text ≡ (turn_of_read session read).text
one-text session read = append-nil (turn_of_read session read).text

pub text-one : (start : Session) (over : List LineRead) (read : LineRead) (session : Session) (text : List ℕ) → (turns_of start over).session ≡ session → (turn_of_read session read).text ≡ text
    → (turns_of start (over ++ read ∷ [])).text ≡ (turns_of start over).text ++ text
text-one start over read session text is said =
    turns-text start over (read ∷ []) ∙ ap (λ t. (turns_of start over).text ++ t) (one-text (turns_of start over).session read ∙ ap (λ s. (turn_of_read s read).text) is ∙ said)

lines_read-append : (first others : List LineRead) → lines_read (first ++ others) ≡ lines_read first ++ lines_read others
lines_read-append first others = map-append (λ (r : LineRead). r.line) first others

pub read-last : (reads : List LineRead) (read : LineRead) (line : List ℕ) → read.line ≡ line → lines_read reads ++ line ∷ [] ≡ lines_read (reads ++ read ∷ [])
read-last reads read line is = ap (λ l. lines_read reads ++ l ∷ []) (sym is) ∙ sym (lines_read-append reads (read ∷ []))

lines-kept : (lines : List (List ℕ)) → lines_read (map kept_line lines) ≡ lines
lines-kept [] = refl
lines-kept (line ∷ lines) = ap (λ ls. line ∷ ls) (lines-kept lines)

-- ---- answers that are kept and handed over

-- after all was handed over
pub stands-handed : {O : Type 0} (handed : Handing O) (has_log : Type 0) (first outlet after : O) (start : Session) (reads : List LineRead) (out out_after : List ℕ) (lines lines_after : Option (List (List ℕ)))
    → Stands handed has_log first outlet start reads out lines → (read : List LineRead) → handed first after start read → out_after ≡ [] → lines_after ≡ no_lines lines
    → Stands handed has_log first after start read out_after lines_after
stands-handed handed has_log first outlet after start reads out out_after lines lines_after p read given none cleared = record {
  over = read;
  kept = [];
  reads_are = sym (append-nil read);
  is_handed = given;
  text_is = none;
  lines_are = λ log. cleared ∙ ap no_lines (p.lines_are log);
  plain = tt;
}

-- further lines are read, and their answers kept
pub stands-more : {O : Type 0} (handed : Handing O) (has_log : Type 0) (first outlet : O) (start : Session) (reads more : List LineRead) (session : Session) (out out_after : List ℕ) (lines lines_after : Option (List (List ℕ)))
    → Stands handed has_log first outlet start reads out lines → session ≡ (turns_of start reads).session → out_after ≡ out ++ (turns_of session more).text
    → lines_after ≡ with_lines lines (logged_of session more) → ArePlain session more → Stands handed has_log first outlet start (reads ++ more) out_after lines_after
stands-more handed has_log first outlet start reads more session out out_after lines lines_after p session_is out_is further plain =
    let mid = (turns_of start p.over).session in
    let same : session ≡ (turns_of mid p.kept).session = session_is ∙ ap (λ rs. (turns_of start rs).session) p.reads_are ∙ turns-session start p.over p.kept in
    record {
      over = p.over;
      kept = p.kept ++ more;
      reads_are = ap (λ rs. rs ++ more) p.reads_are ∙ append_assoc p.over p.kept more;
      is_handed = p.is_handed;
      text_is = out_is ∙ (λ i. p.text_is i ++ (turns_of (same i) more).text) ∙ sym (turns-text mid p.kept more);
      lines_are = λ log.
          further ∙ (λ i. with_lines (p.lines_are log i) (logged_of (same i) more)) ∙ ap Some (sym (logged_of-append mid p.kept more));
      plain = plain-append mid p.kept more p.plain (subst (λ s. ArePlain s more) same plain);
    }

pub stands-push : {O : Type 0} (handed : Handing O) (has_log : Type 0) (first outlet : O) (start : Session) (reads : List LineRead) (read : LineRead) (session : Session) (out out_after : List ℕ) (lines lines_after : Option (List (List ℕ)))
    → Stands handed has_log first outlet start reads out lines → session ≡ (turns_of start reads).session → out_after ≡ out ++ (turn_of_read session read).text
    → lines_after ≡ with_lines lines (logged_by session (turn_of_read session read).session read.line) → IsPlain session read
    → Stands handed has_log first outlet start (reads ++ read ∷ []) out_after lines_after
stands-push handed has_log first outlet start reads read session out out_after lines lines_after p session_is out_is further plain =
    stands-more handed has_log first outlet start reads (read ∷ []) session out out_after lines lines_after p session_is (out_is ∙ ap (λ t. out ++ t) (sym (one-text session read))) further (plain, tt)

pub session-push : (start session new : Session) (reads : List LineRead) (read : LineRead) → session ≡ (turns_of start reads).session → new ≡ (turn_of_read session read).session
    → new ≡ (turns_of start (reads ++ read ∷ [])).session
session-push start session new reads read session_is new_is = new_is ∙ ap (λ s. (turn_of_read s read).session) session_is ∙ sym (turns-session start reads (read ∷ []))

-- the same, with what is kept as it was
pub stands-same : {O : Type 0} (handed : Handing O) (has_log : Type 0) (first outlet : O) (start : Session) (reads : List LineRead) (out out_after : List ℕ) (lines lines_after : Option (List (List ℕ)))
    → Stands handed has_log first outlet start reads out lines → out_after ≡ out → lines_after ≡ lines → Stands handed has_log first outlet start reads out_after lines_after
stands-same handed has_log first outlet start reads out out_after lines lines_after p out_is lines_are =
    subst (λ o. Stands handed has_log first outlet start reads o lines_after) (sym out_is) (subst (λ ls. Stands handed has_log first outlet start reads out ls) (sym lines_are) p)

-- ---- one line

-- a line that is passed over
pub one-passed : {O : Type 0} (handed : Handing O) (has_log : Type 0) (outlet : O) (run : Run) → ((bytes : List ℕ) → HasBytes run.line bytes → is_passed_over bytes ≡ true) → AnswersOne handed has_log outlet outlet run run
one-passed handed has_log outlet run told first start reads bytes has p session_is =
    let read : LineRead = kept_line bytes in
    let turn : turn_of_read run.session read ≡ record { text = []; session = run.session } = rw (told bytes has) refl in (
      read,
      refl,
      stands-push handed has_log first outlet start reads read run.session run.out.items run.out.items run.workspace.lines run.workspace.lines p session_is
          (sym (append-nil run.out.items) ∙ ap (λ (t : Turn). run.out.items ++ t.text) (sym turn))
          (sym (with-nil run.workspace.lines) ∙ ap (with_lines run.workspace.lines) (sym (same-logged run.session bytes)) ∙ ap (λ (t : Turn). with_lines run.workspace.lines (logged_by run.session t.session bytes)) (sym turn))
          (plain-far run.session read refl (subst (λ (t : Turn). IsAsFar run.session t.session) (sym turn) (refl, refl))),
      session-push start run.session run.session reads read session_is (ap (λ (t : Turn). t.session) (sym turn)),
    )

-- a line for which there was memory
pub one-kept : {O : Type 0} (handed : Handing O) (has_log : Type 0) (outlet : O) (old new : Run)
    → ((bytes : List ℕ) → HasBytes old.line bytes → AnswersPlain old.session new.session bytes old.out.items new.out.items old.workspace.lines new.workspace.lines) → AnswersOne handed has_log outlet outlet old new
one-kept handed has_log outlet old new told first start reads bytes has p session_is =
    let read : LineRead = kept_line bytes in
    let turn = read-kept old.session bytes in
    let done = told bytes has in
    let new_is : new.session ≡ (turn_of_read old.session read).session = done.session ∙ ap (λ (t : Turn). t.session) (sym turn) in (
      read,
      refl,
      stands-push handed has_log first outlet start reads read old.session old.out.items new.out.items old.workspace.lines new.workspace.lines p session_is
          (done.text ∙ ap (λ (t : Turn). old.out.items ++ t.text) (sym turn))
          (done.lines ∙ ap (λ s. with_lines old.workspace.lines (logged_by old.session s bytes)) new_is)
          done.plain,
      session-push start old.session new.session reads read session_is new_is,
    )

-- a short answer
pub long-as-far : (session : Session) → IsAsFar session (turn_of_long_line session).session
long-as-far NotOpen = (refl, refl)
long-as-far (Open session) = (refl, refl)

pub lost-as-far : (was_opening : Bool) (session : Session) → IsAsFar session (turn_without_memory was_opening session).session
lost-as-far was_opening NotOpen = (refl, refl)
lost-as-far true (Open session) = (refl, refl)
lost-as-far false (Open session) = (refl, refl)

pub is-short : (start session : Session) (reads : List LineRead) (read : LineRead) (turn : Turn) (text : List ℕ) → session ≡ (turns_of start reads).session → turn_of_read session read ≡ turn
    → read.is_unlogged ≡ false → IsAsFar session turn.session → text ≡ turn.text → IsShort start reads read text
is-short start session reads read turn text session_is turn_is logged far text_is = record {
  text_is = text_is ∙ ap (λ (t : Turn). t.text) (sym turn_is) ∙ sym (one-text session read) ∙ ap (λ s. (turns_of s (read ∷ [])).text) session_is;
  not_logged =
      ap (λ s. logged_of s (read ∷ [])) (sym session_is)
      ∙ none-logged session (turn_of_read session read).session read.line (subst (λ (t : Turn). IsAsFar session t.session) (sym turn_is) far);
  plain =
      subst (λ s. ArePlain s (read ∷ [])) session_is
      (plain-far session read logged (subst (λ (t : Turn). IsAsFar session t.session) (sym turn_is) far), tt);
}

-- a line whose short answer is handed over. The run is the old one but for its session, whose call is counted
pub one-short : {O : Type 0} (handed : Handing O) (has_log : Type 0) (before after : O) (old mid new : Run) (is_lost as_opening : Bool) (turn : Turn) (text : List ℕ)
    → ((bytes : List ℕ) → HasBytes old.line bytes → turn_of_read old.session (record { is_lost = is_lost; as_opening = as_opening; is_unlogged = false; line = bytes }) ≡ turn) → IsAsFar old.session turn.session → text ≡ turn.text
    → mid.out.items ≡ old.out.items → mid.workspace.lines ≡ old.workspace.lines → new.session ≡ turn.session → new.out.items ≡ [] → new.workspace.lines ≡ no_lines mid.workspace.lines
    → HandsOverShort handed has_log before after mid text → AnswersOne handed has_log before after old new
one-short handed has_log before after old mid new is_lost as_opening turn text told far text_is out_is lines_are session_is none cleared over first start reads bytes has p start_is =
    let read : LineRead = record { is_lost = is_lost; as_opening = as_opening; is_unlogged = false; line = bytes } in
    let stands = stands-same handed has_log first before start reads old.out.items mid.out.items old.workspace.lines mid.workspace.lines p out_is lines_are in
    let short = is-short start old.session reads read turn text start_is (told bytes has) refl far text_is in (
      read,
      refl,
      stands-handed handed has_log first before after start reads mid.out.items new.out.items mid.workspace.lines new.workspace.lines stands (reads ++ read ∷ []) (over first start reads read stands short) none cleared,
      session-push start old.session new.session reads read start_is (session_is ∙ ap (λ (t : Turn). t.session) (sym (told bytes has))),
    )

pub stops-short : {O : Type 0} (handed stopped : Handing O) (has_log : Type 0) (before after : O) (old mid : Run) (is_lost as_opening : Bool) (turn : Turn) (text : List ℕ)
    → ((bytes : List ℕ) → HasBytes old.line bytes → turn_of_read old.session (record { is_lost = is_lost; as_opening = as_opening; is_unlogged = false; line = bytes }) ≡ turn) → IsAsFar old.session turn.session → text ≡ turn.text
    → mid.out.items ≡ old.out.items → mid.workspace.lines ≡ old.workspace.lines → StopsInShort handed stopped has_log before after mid text → StopsAt handed stopped has_log before after old
stops-short handed stopped has_log before after old mid is_lost as_opening turn text told far text_is out_is lines_are stops first start reads bytes has p start_is =
    let read : LineRead = record { is_lost = is_lost; as_opening = as_opening; is_unlogged = false; line = bytes } in
    let stands = stands-same handed has_log first before start reads old.out.items mid.out.items old.workspace.lines mid.workspace.lines p out_is lines_are in
    let short = is-short start old.session reads read turn text start_is (told bytes has) refl far text_is in
    (read, refl, λ more. stops first start reads read more stands short)

-- a run that is as it was
abbrev pub IsAsBefore : Run → Run → Type 0
IsAsBefore old mid = (mid.session ≡ old.session) × (mid.out.items ≡ old.out.items) × (mid.workspace.lines ≡ old.workspace.lines)

pub answers-same : {O : Type 0} (handed : Handing O) (has_log : Type 0) (before after : O) (old mid new : Run) → mid.line ≡ old.line → ((bytes : List ℕ) → HasBytes old.line bytes → IsAsBefore old mid)
    → AnswersOne handed has_log before after mid new → AnswersOne handed has_log before after old new
answers-same handed has_log before after old mid new line same one first start reads bytes has p session_is =
    let is = same bytes has in
    one first start reads bytes (subst (λ l. HasBytes l bytes) (sym line) has)
    (stands-same handed has_log first before start reads old.out.items mid.out.items old.workspace.lines mid.workspace.lines p is.1 is.2) (is.0 ∙ session_is)

pub stops-same : {O : Type 0} (handed stopped : Handing O) (has_log : Type 0) (before after : O) (old mid : Run) → mid.line ≡ old.line → ((bytes : List ℕ) → HasBytes old.line bytes → IsAsBefore old mid)
    → StopsAt handed stopped has_log before after mid → StopsAt handed stopped has_log before after old
stops-same handed stopped has_log before after old mid line same stops first start reads bytes has p session_is =
    let is = same bytes has in
    stops first start reads bytes (subst (λ l. HasBytes l bytes) (sym line) has)
    (stands-same handed has_log first before start reads old.out.items mid.out.items old.workspace.lines mid.workspace.lines p is.1 is.2) (is.0 ∙ session_is)

-- the answers that are kept can't be handed over
pub stops-first : {O : Type 0} (handed stopped : Handing O) (has_log : Type 0) (before after : O) (old mid : Run) → ((bytes : List ℕ) → HasBytes old.line bytes → mid.out.items ≡ old.out.items)
    → mid.workspace.lines ≡ old.workspace.lines → StopsBetween handed stopped has_log before after mid → StopsAt handed stopped has_log before after old
stops-first handed stopped has_log before after old mid out lines stops first start reads bytes has p session_is = (
  kept_line bytes,
  refl,
  λ more. subst (λ rs. stopped first after start rs) (sym (append_assoc reads (kept_line bytes ∷ []) more))
      (stops first start reads (kept_line bytes ∷ more) (stands-same handed has_log first before start reads old.out.items mid.out.items old.workspace.lines mid.workspace.lines p (out bytes has) lines)),
)

-- ---- a line that asks to forget

-- it is refused, or nothing is left to forget
pub one-stays : {O : Type 0} (handed : Handing O) (has_log : Type 0) (outlet : O) (old new : Run) (f : ForgetRequest) → ((bytes : List ℕ) → HasBytes old.line bytes → AsksToForget old.session bytes f)
    → ((session : OpenSession) → old.session ≡ Open session → (text : List ℕ) × (new.out.items ≡ old.out.items ++ text) × (turn_of_forget (counted session) f ≡ record { text = text; session = Open (counted session) }))
    → ((session : OpenSession) → old.session ≡ Open session → new.session ≡ Open (counted session)) → new.workspace.lines ≡ old.workspace.lines → AnswersOne handed has_log outlet outlet old new
one-stays handed has_log outlet old new f asks prepared next lines first start reads bytes has p session_is =
    let read : LineRead = kept_line bytes in
    let a = asks bytes has in
    let said = prepared a.opened a.session_is in
    let turn : turn_of_read old.session read ≡ record { text = said.0; session = Open (counted a.opened) } = forget-turn old.session bytes f a ∙ said.2 in
    let new_is : new.session ≡ (turn_of_read old.session read).session = next a.opened a.session_is ∙ ap (λ (t : Turn). t.session) (sym turn) in
    let far : IsAsFar old.session (turn_of_read old.session read).session =
    subst (λ (t : Turn). IsAsFar old.session t.session) (sym turn) (subst (λ s. IsAsFar s (Open (counted a.opened))) (sym a.session_is) (refl, refl)) in (
      read,
      refl,
      stands-push handed has_log first outlet start reads read old.session old.out.items new.out.items old.workspace.lines new.workspace.lines p session_is
          (said.1 ∙ ap (λ (t : Turn). old.out.items ++ t.text) (sym turn))
          (lines ∙ sym (with-nil old.workspace.lines) ∙ ap (with_lines old.workspace.lines) (sym (none-logged old.session (turn_of_read old.session read).session bytes far)))
          (plain-far old.session read refl far),
      session-push start old.session new.session reads read session_is new_is,
    )

-- all answers before it are handed over, and there is something to forget
pub is-ready : {O : Type 0} (handed : Handing O) (has_log : Type 0) (first outlet after : O) (start : Session) (reads : List LineRead) (bytes : List ℕ) (old mid run : Run) (f : ForgetRequest) (ready : ReadyToForget)
    (a : AsksToForget old.session bytes f) → old.session ≡ (turns_of start reads).session → TurnsForget (counted a.opened) (turn_of_forget (counted a.opened) f) ready.text.items (Some ready.forgetting)
    → mid.session ≡ Open (counted a.opened) → run.session ≡ mid.session → handed first after start reads → run.out.items ≡ [] → (has_log → run.workspace.lines ≡ Some [])
    → IsReady handed has_log first after start reads bytes run ready
is-ready handed has_log first outlet after start reads bytes old mid run f ready a session_is turns counted_is same given out lines = record {
  session = a.opened;
  before = sym session_is ∙ a.session_is;
  counted_is = same ∙ counted_is;
  asks = ap asks_to_forget a.asks.1;
  short = a.short;
  told = a.told;
  turn =
      turn-request a.opened (value_of_line bytes) (asked-request a.opened (value_of_line bytes) _ a.asks.1)
      ∙ ap (turn_by_request (counted a.opened)) a.asks.1 ∙ turns.0;
  anew = turns.1;
  is_handed = given;
  out = out;
  lines = lines;
}

pub forget-ready : {O : Type 0} (handed : Handing O) (has_log : Type 0) (before between : O) (old mid run : Run) (f : ForgetRequest) (ready : ReadyToForget) → ((bytes : List ℕ) → HasBytes old.line bytes → AsksToForget old.session bytes f)
    → ((session : OpenSession) → old.session ≡ Open session → Prepares (counted session) f old.out.items mid.out.items (Some ready))
    → ((session : OpenSession) → old.session ≡ Open session → mid.session ≡ Open (counted session)) → mid.workspace.lines ≡ old.workspace.lines
    → HandsOver handed has_log before between mid → run.session ≡ mid.session → run.out.items ≡ [] → run.workspace.lines ≡ no_lines mid.workspace.lines
    → (first : O) (start : Session) (reads : List LineRead) (bytes : List ℕ) → HasBytes old.line bytes → Stands handed has_log first before start reads old.out.items old.workspace.lines → old.session ≡ (turns_of start reads).session
    → IsReady handed has_log first between start reads bytes run ready
forget-ready handed has_log before between old mid run f ready asks prepared counted_is lines over same none cleared first start reads bytes has p session_is =
    let a = asks bytes has in
    let prep = prepared a.opened a.session_is in
    let stands = stands-same handed has_log first before start reads old.out.items mid.out.items old.workspace.lines mid.workspace.lines p prep.0 lines in
    is-ready handed has_log first before between start reads bytes old mid run f ready a session_is prep.1 (counted_is a.opened a.session_is) same (over first start reads stands) none
    (λ log. cleared ∙ ap no_lines (stands.lines_are log))

-- a session that forgets something has another database
forgets-changes : (session : OpenSession) (f : Forgetting) → forgets_nothing (counted session) f ≡ false → changes_database (Open session) (Open (forgotten_by (counted session) f)) ≡ true
forgets-changes session f is =
    ap not (ap (λ b. b && (f.numbering.horizon == session.numbering.horizon)) (same-next (length f.db.history) (length session.database.history)) ∙ is)

with-memory : (session : OpenSession) (line : List ℕ) → is_passed_over line ≡ false → turn_with_memory (Open session) line ≡ turn_by_value (Open session) (value_of_line line)
with-memory session line told = rw told refl

-- the line's turn with a log, and the lines that forget
ready-turn : {O : Type 0} (handed : Handing O) (has_log : Type 0) (first outlet : O) (start : Session) (over : List LineRead) (line : List ℕ) (run : Run) (ready : ReadyToForget) (p : IsReady handed has_log first outlet start over line run ready)
    → turn_of_read (Open p.session) (kept_line line) ≡ record { text = ready.text.items; session = Open (forgotten_by (counted p.session) ready.forgetting) }
ready-turn handed has_log first outlet start over line run ready p = read-kept (Open p.session) line ∙ with-memory p.session line p.told ∙ p.turn

ready-forgets : {O : Type 0} (handed : Handing O) (has_log : Type 0) (first outlet : O) (start : Session) (over : List LineRead) (line : List ℕ) (run : Run) (ready : ReadyToForget) (p : IsReady handed has_log first outlet start over line run ready)
    → forgets_by (Open p.session) line ≡ true
ready-forgets handed has_log first outlet start over line run ready p =
    (λ i. p.asks i && changes_database (Open p.session) (p.turn i).session) ∙ forgets-changes p.session ready.forgetting p.anew

pub forgets : {O : Type 0} (handed : Handing O) (has_log : Type 0) (first outlet : O) (start : Session) (over : List LineRead) (line : List ℕ) (run : Run) (ready : ReadyToForget) (terms : Terms) (text refusal : List ℕ)
    → (p : IsReady handed has_log first outlet start over line run ready) → ((session : OpenSession) → run.session ≡ Open session → terms ≡ terms_of session) → terms.most_records ≤ max_records
    → text ≡ ready.text.items → refusal ≡ short_text (shorts.CallWithoutLog (calls_of run.session)) → Forgets start over line ready.forgetting terms text refusal
forgets handed has_log first outlet start over line run ready terms text refusal p terms_are few text_is refusal_is =
    let s = p.session in
    let next = forgotten_by (counted s) ready.forgetting in
    let value = ready-turn handed has_log first outlet start over line run ready p in
    record {
      session = s;
      session_is = p.before;
      terms_are = terms_are (counted s) p.counted_is;
      few = few;
      turn = value ∙ ap (λ t. record { text = t; session = Open next }) (sym text_is);
      anew = (λ i. p.asks i && changes_database (Open s) (value i).session) ∙ forgets-changes s ready.forgetting p.anew;
      refused =
          read-unlogged (Open s) line p.told (ready-forgets handed has_log first outlet start over line run ready p)
          ∙ ap (λ t. record { text = t; session = Open (counted s) }) (ap (λ x. short_text (shorts.CallWithoutLog (calls_of x))) (sym p.counted_is) ∙ sym refusal_is);
    }

-- after it is answered, with the log made anew or refused
pub forgets-one : {O : Type 0} (handed : Handing O) (has_log : Type 0) (first before after : O) (start : Session) (over : List LineRead) (line : List ℕ) (old new : Run) (ready : ReadyToForget) (read : LineRead)
    → IsReady handed has_log first before start over line old ready → read.line ≡ line → handed first after start (over ++ read ∷ []) → new.session ≡ (turn_of_read (turns_of start over).session read).session
    → new.out.items ≡ [] → (has_log → new.workspace.lines ≡ Some [])
    → (r : LineRead) × (r.line ≡ line) × Stands handed has_log first after start (over ++ r ∷ []) new.out.items new.workspace.lines × (new.session ≡ (turns_of start (over ++ r ∷ [])).session)
forgets-one handed has_log first before after start over line old new ready read p is given session out lines = (
  read,
  is,
  record {
    over = over ++ read ∷ [];
    kept = [];
    reads_are = sym (append-nil (over ++ read ∷ []));
    is_handed = given;
    text_is = out;
    lines_are = lines;
    plain = tt;
  },
  session ∙ sym (turns-session start over (read ∷ [])),
)

-- the answer without memory to a line by which a session would forget something
pub short-lost : {O : Type 0} (handed : Handing O) (has_log : Type 0) (first outlet : O) (start : Session) (over : List LineRead) (line : List ℕ) (run : Run) (ready : ReadyToForget) (text : List ℕ)
    → IsReady handed has_log first outlet start over line run ready → text ≡ short_text (shorts.CallOutOfMemory (calls_of run.session)) → IsShort start over (lost_line losts.Request line) text
short-lost handed has_log first outlet start over line run ready text p text_is =
    is-short start (Open p.session) over (lost_line losts.Request line) (turn_without_memory false (Open p.session)) text (sym p.before) (read-lost losts.Request (Open p.session) line p.told p.short tt) refl (refl, refl)
    (text_is ∙ ap (λ s. short_text (shorts.CallOutOfMemory (calls_of s))) p.counted_is)

-- nothing is kept behind what is handed over
pub stands-ready : {O : Type 0} (handed : Handing O) (has_log : Type 0) (first outlet : O) (start : Session) (over : List LineRead) (out : List ℕ) (lines : Option (List (List ℕ)))
    → handed first outlet start over → out ≡ [] → (has_log → lines ≡ Some []) → Stands handed has_log first outlet start over out lines
stands-ready handed has_log first outlet start over out lines given none cleared = record {
  over = over;
  kept = [];
  reads_are = sym (append-nil over);
  is_handed = given;
  text_is = none;
  lines_are = cleared;
  plain = tt;
}

-- the session goes on behind the time
pub forgets-made : {O : Type 0} (handed : Handing O) (has_log : Type 0) (first before after : O) (start : Session) (over : List LineRead) (line : List ℕ) (old new : Run) (ready : ReadyToForget)
    → IsReady handed has_log first before start over line old ready → handed first after start (over ++ kept_line line ∷ [])
    → ((session : OpenSession) → old.session ≡ Open session → new.session ≡ Open (forgotten_by session ready.forgetting)) → new.out.items ≡ old.out.items → new.workspace.lines ≡ old.workspace.lines
    → (r : LineRead) × (r.line ≡ line) × Stands handed has_log first after start (over ++ r ∷ []) new.out.items new.workspace.lines × (new.session ≡ (turns_of start (over ++ r ∷ [])).session)
forgets-made handed has_log first before after start over line old new ready p given session out lines =
    forgets-one handed has_log first before after start over line old new ready (kept_line line) p refl given
    (session (counted p.session) p.counted_is ∙ ap (λ (t : Turn). t.session) (sym (ready-turn handed has_log first before start over line old ready p)) ∙ ap (λ s. (turn_of_read s (kept_line line)).session) (sym p.before))
    (out ∙ p.out) (λ log. lines ∙ p.lines log)

-- the log couldn't be made anew
pub forgets-refused : {O : Type 0} (handed : Handing O) (has_log : Type 0) (first before after : O) (start : Session) (over : List LineRead) (line : List ℕ) (old : Run) (ready : ReadyToForget)
    → IsReady handed has_log first before start over line old ready → handed first after start (over ++ unlogged_line line ∷ [])
    → (r : LineRead) × (r.line ≡ line) × Stands handed has_log first after start (over ++ r ∷ []) old.out.items old.workspace.lines × (old.session ≡ (turns_of start (over ++ r ∷ [])).session)
forgets-refused handed has_log first before after start over line old ready p given =
    forgets-one handed has_log first before after start over line old old ready (unlogged_line line) p refl given
    (p.counted_is ∙ ap (λ (t : Turn). t.session) (sym (read-unlogged (Open p.session) line p.told (ready-forgets handed has_log first before start over line old ready p))) ∙ ap (λ s. (turn_of_read s (unlogged_line line)).session) (sym p.before))
    p.out p.lines

-- there was no memory to make it anew
pub forgets-lost : {O : Type 0} (handed : Handing O) (has_log : Type 0) (first before between after : O) (start : Session) (over : List LineRead) (line : List ℕ) (old new : Run) (ready : ReadyToForget) (text : List ℕ)
    → IsReady handed has_log first before start over line old ready → handed first between start over → text ≡ short_text (shorts.CallOutOfMemory (calls_of old.session)) → HandsOverShort handed has_log between after old text
    → new.session ≡ old.session → new.out.items ≡ [] → new.workspace.lines ≡ no_lines old.workspace.lines
    → (r : LineRead) × (r.line ≡ line) × Stands handed has_log first after start (over ++ r ∷ []) new.out.items new.workspace.lines × (new.session ≡ (turns_of start (over ++ r ∷ [])).session)
forgets-lost handed has_log first before between after start over line old new ready text p given text_is over_short session out lines =
    let short = short-lost handed has_log first before start over line old ready text p text_is in
    let stands = stands-ready handed has_log first between start over old.out.items old.workspace.lines given p.out p.lines in
    forgets-one handed has_log first before after start over line old new ready (lost_line losts.Request line) p refl (over_short first start over (lost_line losts.Request line) stands short)
    (session ∙ p.counted_is ∙ ap (λ (t : Turn). t.session) (sym (read-lost losts.Request (Open p.session) line p.told p.short tt)) ∙ ap (λ s. (turn_of_read s (lost_line losts.Request line)).session) (sym p.before))
    out (λ log. lines ∙ ap no_lines (p.lines log))

pub stops-lost : {O : Type 0} (handed stopped : Handing O) (has_log : Type 0) (first before between after : O) (start : Session) (over : List LineRead) (line : List ℕ) (old : Run) (ready : ReadyToForget) (text : List ℕ)
    → IsReady handed has_log first before start over line old ready → handed first between start over → text ≡ short_text (shorts.CallOutOfMemory (calls_of old.session)) → StopsInShort handed stopped has_log between after old text
    → (r : LineRead) × (r.line ≡ line) × ((more : List LineRead) → stopped first after start ((over ++ r ∷ []) ++ more))
stops-lost handed stopped has_log first before between after start over line old ready text p given text_is stops =
    let short = short-lost handed has_log first before start over line old ready text p text_is in
    let stands = stands-ready handed has_log first between start over old.out.items old.workspace.lines given p.out p.lines in
    (lost_line losts.Request line, refl, λ more. stops first start over (lost_line losts.Request line) more stands short)

-- ---- whole lines, and the bytes of the next one

pub cuts-more : (given bytes : List ℕ) (lines : List (List ℕ)) (left : List ℕ) → has_no_feed bytes ≡ true → Cuts given lines left → Cuts (given ++ bytes) lines (left ++ bytes)
cuts-more given bytes lines left none p = record {
  parts = ap (λ l. l ++ bytes) p.parts ∙ append_assoc (joined lines) left bytes;
  whole = p.whole;
  last = feed-more left bytes p.last none;
}

pub cuts-line : (given : List ℕ) (lines : List (List ℕ)) (left : List ℕ) → Cuts given lines left → Cuts (given ++ 10 ∷ []) (lines ++ left ∷ []) []
cuts-line given lines left p = record {
  parts =
      ap (λ l. l ++ 10 ∷ []) p.parts ∙ append_assoc (joined lines) left (10 ∷ []) ∙ sym (joined-append lines (left ∷ []))
      ∙ sym (append-nil (joined (lines ++ left ∷ [])));
  whole = list_all-append has_no_feed lines (left ∷ []) ∙ and_from _ _ p.whole (and_from _ _ p.last refl);
  last = refl;
}

pub cuts-front : (given bytes : List ℕ) (lines more : List (List ℕ)) → Cuts given lines [] → bytes ≡ joined more → list_all has_no_feed more ≡ true → Cuts (given ++ bytes) (lines ++ more) []
cuts-front given bytes lines more p front whole = record {
  parts =
      (λ i. (p.parts ∙ append-nil (joined lines)) i ++ front i) ∙ sym (joined-append lines more)
      ∙ sym (append-nil (joined (lines ++ more)));
  whole = list_all-append has_no_feed lines more ∙ and_from _ _ p.whole whole;
  last = refl;
}

-- ---- a run that takes further bytes

pub stands-rests : {O : Type 0} (handed : Handing O) (has_log : Type 0) (first outlet : O) (start : Session) (given : List ℕ) (run : Run) (p : Rests handed has_log first outlet start given run)
    → Stands handed has_log first outlet start p.reads run.out.items run.workspace.lines
stands-rests handed has_log first outlet start given run p = record {
  over = p.reads;
  kept = [];
  reads_are = sym (append-nil p.reads);
  is_handed = p.is_handed;
  text_is = p.out;
  lines_are = p.lines;
  plain = tt;
}

pub serves-rests : {O : Type 0} (handed : Handing O) (has_log : Type 0) (first outlet : O) (start : Session) (given : List ℕ) (run : Run) → Rests handed has_log first outlet start given run → Serves handed has_log first outlet start given run
serves-rests handed has_log first outlet start given run p = record {
  reads = p.reads;
  left = p.left;
  cuts = p.cuts;
  line = p.line;
  stands = stands-rests handed has_log first outlet start given run p;
  session = p.session;
}

pub rests-serves : {O : Type 0} (handed : Handing O) (has_log : Type 0) (first outlet after : O) (start : Session) (given : List ℕ) (old new : Run) (p : Serves handed has_log first outlet start given old)
    → HandsOver handed has_log outlet after old → new.session ≡ old.session → new.line ≡ old.line → new.out.items ≡ [] → new.workspace.lines ≡ no_lines old.workspace.lines
    → Rests handed has_log first after start given new
rests-serves handed has_log first outlet after start given old new p over session line none cleared = record {
  reads = p.reads;
  left = p.left;
  cuts = p.cuts;
  line = subst (λ l. HasBytes l p.left) (sym line) p.line;
  is_handed = over first start p.reads p.stands;
  session = session ∙ p.session;
  out = none;
  lines = λ log. cleared ∙ ap no_lines (p.stands.lines_are log);
}

-- the run is as it was
pub rests-on : {O : Type 0} (handed : Handing O) (has_log : Type 0) (first outlet : O) (start : Session) (given : List ℕ) (old new : Run) → Rests handed has_log first outlet start given old
    → new.session ≡ old.session → new.line ≡ old.line → new.out.items ≡ old.out.items → new.workspace.lines ≡ old.workspace.lines → Rests handed has_log first outlet start given new
rests-on handed has_log first outlet start given old new p session line out lines = record {
  reads = p.reads;
  left = p.left;
  cuts = p.cuts;
  line = subst (λ l. HasBytes l p.left) (sym line) p.line;
  is_handed = p.is_handed;
  session = session ∙ p.session;
  out = out ∙ p.out;
  lines = λ log. lines ∙ p.lines log;
}

pub takes-nothing : {O : Type 0} (handed : Handing O) (has_log : Type 0) (outlet : O) (run : Run) → Takes handed has_log outlet outlet [] run run
takes-nothing handed has_log outlet run first start given p = subst (λ l. Serves handed has_log first outlet start l run) (sym (append-nil given)) p

pub takes-none : {O : Type 0} (handed : Handing O) (has_log : Type 0) (outlet : O) (bytes : List ℕ) (old new : Run) → has_no_feed bytes ≡ true → ((left : List ℕ) → HasBytes old.line left → HasBytes new.line (left ++ bytes))
    → new.session ≡ old.session → new.out.items ≡ old.out.items → new.workspace.lines ≡ old.workspace.lines → Takes handed has_log outlet outlet bytes old new
takes-none handed has_log outlet bytes old new none line session out lines first start given p = record {
  reads = p.reads;
  left = p.left ++ bytes;
  cuts = cuts-more given bytes (lines_read p.reads) p.left none p.cuts;
  line = line p.left p.line;
  stands = stands-same handed has_log first outlet start p.reads old.out.items new.out.items old.workspace.lines new.workspace.lines p.stands out lines;
  session = session ∙ p.session;
}

-- the line is answered, and the next one begins
pub takes-one : {O : Type 0} (handed : Handing O) (has_log : Type 0) (before after : O) (old mid new : Run) → AnswersOne handed has_log before after old mid
    → HasBytes new.line [] → new.session ≡ mid.session → new.out.items ≡ mid.out.items → new.workspace.lines ≡ mid.workspace.lines → Takes handed has_log before after (10 ∷ []) old new
takes-one handed has_log before after old mid new one line session out lines first start given p =
    let done = one first start p.reads p.left p.line p.stands p.session in
    let read : LineRead = done.0 in
    record {
      reads = p.reads ++ read ∷ [];
      left = [];
      cuts = subst (λ ls. Cuts (given ++ 10 ∷ []) ls []) (read-last p.reads read p.left done.1) (cuts-line given (lines_read p.reads) p.left p.cuts);
      line = line;
      stands = stands-same handed has_log first after start (p.reads ++ read ∷ []) mid.out.items new.out.items mid.workspace.lines new.workspace.lines done.2 out lines;
      session = session ∙ done.3;
    }

-- answers that are kept are handed over, or not
pub takes-given : {O : Type 0} (handed : Handing O) (has_log : Type 0) (a b c : O) (bytes : List ℕ) (old mid new : Run) → new.session ≡ mid.session → new.line ≡ mid.line → StandsOn handed has_log b c mid new
    → Takes handed has_log a b bytes old mid → Takes handed has_log a c bytes old new
takes-given handed has_log a b c bytes old mid new session line on taken first start given p =
    let q = taken first start given p in
    record {
      reads = q.reads;
      left = q.left;
      cuts = q.cuts;
      line = subst (λ l. HasBytes l q.left) (sym line) q.line;
      stands = on first start q.reads q.stands;
      session = session ∙ q.session;
    }

-- the lines that bytes begin with are answered together
pub takes-together : {O : Type 0} (handed : Handing O) (has_log : Type 0) (outlet : O) (bytes : List ℕ) (count : ℕ) (old new : Run) → ((left : List ℕ) → HasBytes old.line left → left ≡ []) → new.line ≡ old.line
    → AnswersFront bytes count old.session new.session old.out.items new.out.items old.workspace.lines new.workspace.lines → Takes handed has_log outlet outlet (take count bytes) old new
takes-together handed has_log outlet bytes count old new none line front first start given p =
    let more : List LineRead = map kept_line front.lines in
    let empty = none p.left p.line in
    let cuts : Cuts given (lines_read p.reads) [] = subst (λ l. Cuts given (lines_read p.reads) l) empty p.cuts in
    let said : (turns_of old.session more).text ≡ front.text = ap (λ (t : Turn). t.text) front.turn in
    record {
      reads = p.reads ++ more;
      left = [];
      cuts =
          subst (λ ls. Cuts (given ++ take count bytes) ls []) (ap (λ ls. lines_read p.reads ++ ls) (sym (lines-kept front.lines)) ∙ sym (lines_read-append p.reads more))
          (cuts-front given (take count bytes) (lines_read p.reads) front.lines cuts front.front front.whole);
      line = subst (λ l. HasBytes l []) (sym line) (subst (λ l. HasBytes old.line l) empty p.line);
      stands =
          stands-more handed has_log first outlet start p.reads more old.session old.out.items new.out.items old.workspace.lines new.workspace.lines p.stands p.session
          (front.out ∙ ap (λ t. old.out.items ++ t) (sym said)) front.logged front.plain;
      session =
          sym (ap (λ (t : Turn). t.session) front.turn) ∙ ap (λ s. (turns_of s more).session) p.session ∙ sym (turns-session start p.reads more);
    }

pub takes-of : {O : Type 0} (handed : Handing O) (has_log : Type 0) (a b : O) (front bytes : List ℕ) (old new : Run) → front ≡ bytes → Takes handed has_log a b front old new → Takes handed has_log a b bytes old new
takes-of handed has_log a b front bytes old new same taken first start given p = subst (λ l. Serves handed has_log first b start (given ++ l) new) same (taken first start given p)

pub takes-trans : {O : Type 0} (handed : Handing O) (has_log : Type 0) (a b c : O) (front back : List ℕ) (old mid new : Run) → Takes handed has_log a b front old mid → Takes handed has_log b c back mid new
    → Takes handed has_log a c (front ++ back) old new
takes-trans handed has_log a b c front back old mid new p q first start given serves =
    subst (λ l. Serves handed has_log first c start l new) (append_assoc given front back) (q first start (given ++ front) (p first start given serves))

-- the first of some bytes are taken, and then further ones
pub takes-more : {O : Type 0} (handed : Handing O) (has_log : Type 0) (a b c : O) (bytes : List ℕ) (m n all : ℕ) (old mid new : Run) → Takes handed has_log a b (take m bytes) old mid
    → Takes handed has_log b c (take n (take (length bytes - m) (drop m bytes))) mid new → m + n ≡ all → Takes handed has_log a c (take all bytes) old new
takes-more handed has_log a b c bytes m n all old mid new p q e =
    let rest = take (length bytes - m) (drop m bytes) in
    let whole : take m bytes ++ take n rest ≡ take all bytes = ap (λ l. take m bytes ++ take n l) (take_rest bytes m) ∙ sym (take-add m n bytes) ∙ ap (λ k. take k bytes) e in
    takes-of handed has_log a c (take m bytes ++ take n rest) (take all bytes) old new whole (takes-trans handed has_log a b c (take m bytes) (take n rest) old mid new p q)

-- ---- an outlet that fails

pub halts-more : {O : Type 0} (stopped : Handing O) (first outlet : O) (start : Session) (given more : List ℕ) → Halts stopped first outlet start given → Halts stopped first outlet start (given ++ more)
halts-more stopped first outlet start given more p = record {
  reads = p.reads;
  rest = p.rest ++ more;
  parts = ap (λ l. l ++ more) p.parts ∙ append_assoc (joined (lines_read p.reads)) p.rest more;
  whole = p.whole;
  is_stopped = p.is_stopped;
}

-- between two lines
pub halts-between : {O : Type 0} (handed stopped : Handing O) (has_log : Type 0) (first before after : O) (start : Session) (given : List ℕ) (run : Run) → Serves handed has_log first before start given run
    → StopsBetween handed stopped has_log before after run → Halts stopped first after start given
halts-between handed stopped has_log first before after start given run p stops = record {
  reads = p.reads;
  rest = p.left;
  parts = p.cuts.parts;
  whole = p.cuts.whole;
  is_stopped = λ more. stops first start p.reads more p.stands;
}

pub stops-between : {O : Type 0} (handed stopped : Handing O) (has_log : Type 0) (a b c : O) (bytes : List ℕ) (old mid : Run) → Takes handed has_log a b bytes old mid
    → StopsBetween handed stopped has_log b c mid → StopsIn handed stopped has_log a c bytes old
stops-between handed stopped has_log a b c bytes old mid taken stops first start given p =
    halts-between handed stopped has_log first b c start (given ++ bytes) mid (taken first start given p) stops

-- at a line
pub stops-one : {O : Type 0} (handed stopped : Handing O) (has_log : Type 0) (before after : O) (old : Run) → StopsAt handed stopped has_log before after old → StopsIn handed stopped has_log before after (10 ∷ []) old
stops-one handed stopped has_log before after old stops first start given p =
    let at = stops first start p.reads p.left p.line p.stands p.session in
    let read : LineRead = at.0 in
    let cuts : Cuts (given ++ 10 ∷ []) (lines_read (p.reads ++ read ∷ [])) [] =
    subst (λ ls. Cuts (given ++ 10 ∷ []) ls []) (read-last p.reads read p.left at.1) (cuts-line given (lines_read p.reads) p.left p.cuts) in
    record { reads = p.reads ++ read ∷ []; rest = []; parts = cuts.parts; whole = cuts.whole; is_stopped = at.2 }

pub stops-of : {O : Type 0} (handed stopped : Handing O) (has_log : Type 0) (a b : O) (front bytes : List ℕ) (old : Run) → front ≡ bytes → StopsIn handed stopped has_log a b front old → StopsIn handed stopped has_log a b bytes old
stops-of handed stopped has_log a b front bytes old same stops first start given p = subst (λ l. Halts stopped first b start (given ++ l)) same (stops first start given p)

pub stops-before : {O : Type 0} (handed stopped : Handing O) (has_log : Type 0) (a b : O) (front back : List ℕ) (old : Run) → StopsIn handed stopped has_log a b front old → StopsIn handed stopped has_log a b (front ++ back) old
stops-before handed stopped has_log a b front back old stops first start given p =
    subst (λ l. Halts stopped first b start l) (append_assoc given front back) (halts-more stopped first b start (given ++ front) back (stops first start given p))

pub stops-trans : {O : Type 0} (handed stopped : Handing O) (has_log : Type 0) (a b c : O) (front back : List ℕ) (old mid : Run) → Takes handed has_log a b front old mid → StopsIn handed stopped has_log b c back mid
    → StopsIn handed stopped has_log a c (front ++ back) old
stops-trans handed stopped has_log a b c front back old mid p q first start given serves =
    subst (λ l. Halts stopped first c start l) (append_assoc given front back) (q first start (given ++ front) (p first start given serves))

pub stops-more : {O : Type 0} (handed stopped : Handing O) (has_log : Type 0) (a b c : O) (bytes : List ℕ) (m : ℕ) (old mid : Run) → Takes handed has_log a b (take m bytes) old mid
    → StopsIn handed stopped has_log b c (take (length bytes - m) (drop m bytes)) mid → StopsIn handed stopped has_log a c bytes old
stops-more handed stopped has_log a b c bytes m old mid p q =
    let rest = take (length bytes - m) (drop m bytes) in
    stops-of handed stopped has_log a c (take m bytes ++ rest) bytes old (rest_of bytes m) (stops-trans handed stopped has_log a b c (take m bytes) rest old mid p q)
