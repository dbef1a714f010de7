-- How an outlet makes its log anew for a line by which a session forgets what lies before a time.
use Rattle.std.specs.Prelude.{◌≡◌, ℕ, ◌≤◌, true, false, List, [], ◌∷◌, ◌++◌, Some}
use Rattle.tt_requests.specs.Lines.{is_too_long, is_passed_over}
use Rattle.tt_requests.specs.LineValue.{value_of_line}
use Rattle.tt_requests.specs.Opening.{max_records}
use Rattle.tt_session.specs.declared.session.Session.{Session}
use Rattle.tt_session.specs.declared.session.Session.TheVariants as sessions
use Rattle.tt_lines.specs.declared.outlet.Renewal.{Renewal}
use Rattle.tt_lines.specs.declared.outlet.Renewal.TheVariants as renewals
use Rattle.tt_lines.specs.declared.run.Run.{Run}
use Rattle.tt_commands.specs.declared.terms.Terms.{Terms}
use Rattle.tt_session.specs.declared.ready_to_forget.ReadyToForget.{ReadyToForget}
use Rattle.tt_session.specs.Changing.{line_asks_to_forget}
use Rattle.tt_commands.specs.Forgetting.{forgets_nothing}
use Rattle.tt_session.specs.Run.{turn_by_value}
use Rattle.tt_commands.specs.Session.{OpenSession, Forgetting, terms_of, counted}
use Rattle.tt_commands.specs.Changes.{forgotten_by}
use Rattle.tt_session.specs.Answering.{LineRead, turn_of_read, turns_of}
use Rattle.tt_session.specs.Logged.{makes_log_anew}
use Rattle.tt_session.specs.Together.{kept_line, unlogged_line}
use Rattle.tt_lines.specs.Running.{Handing, Stands}

-- behind the first lines that a session has read, a line makes it forget something: this text is its answer then, and this one if the log can't be made anew
pub record Forgets (start : Session) (over : List LineRead) (line : List ℕ) (f : Forgetting) (terms : Terms) (text refusal : List ℕ) : Type 0 where
  pub session : OpenSession
  pub session_is : (turns_of start over).session ≡ sessions.Open session
  pub terms_are : terms ≡ terms_of session
  pub few : terms.most_records ≤ max_records
  pub turn : turn_of_read (sessions.Open session) (kept_line line) ≡ record { text = text; session = sessions.Open (forgotten_by (counted session) f) }
  pub anew : makes_log_anew (sessions.Open session) (kept_line line) ≡ true
  pub refused : turn_of_read (sessions.Open session) (unlogged_line line) ≡ record { text = refusal; session = sessions.Open (counted session) }

-- the log was made anew, and the answer handed over; or it couldn't be, and the refusal was handed over; or there was no memory, and nothing has changed
abbrev pub Renews : {O : Type 0} → Handing O → O → O → Session → List LineRead → List ℕ → Renewal → Type 0
Renews handed first after start over line renewals.MadeAnew = handed first after start (over ++ kept_line line ∷ [])
Renews handed first after start over line renewals.Refused = handed first after start (over ++ unlogged_line line ∷ [])
Renews handed first after start over line renewals.OutOfMemory = handed first after start over

-- the outlet has failed before it had the answer or the refusal
abbrev pub StopsRenewing : {O : Type 0} → Handing O → O → O → Session → List LineRead → List ℕ → Type 0
StopsRenewing stopped first after start over line =
    (read : LineRead) × (read.line ≡ line) × ((more : List LineRead) → stopped first after start ((over ++ read ∷ []) ++ more))

-- A run has counted the call of a line by which its session forgets something, and has handed over all answers before it.
pub record IsReady {O : Type 0} (handed : Handing O) (has_log : Type 0) (first outlet : O) (start : Session) (over : List LineRead) (line : List ℕ) (run : Run) (ready : ReadyToForget) : Type 0 where
  pub session : OpenSession
  pub before : (turns_of start over).session ≡ sessions.Open session
  pub counted_is : run.session ≡ sessions.Open (counted session)
  pub asks : line_asks_to_forget (sessions.Open session) line ≡ true
  pub short : is_too_long line ≡ false
  pub told : is_passed_over line ≡ false
  pub turn : turn_by_value (sessions.Open session) (value_of_line line) ≡ record { text = ready.text.items; session = sessions.Open (forgotten_by (counted session) ready.forgetting) }
  pub anew : forgets_nothing (counted session) ready.forgetting ≡ false
  pub is_handed : handed first outlet start over
  pub out : run.out.items ≡ []
  pub lines : has_log → run.workspace.lines ≡ Some []

-- the line was answered and its answer handed over, with the log made anew or not
abbrev pub ForgetsOne : {O : Type 0} → Handing O → Type 0 → O → O → Run → Run → ReadyToForget → Type 0
ForgetsOne {O} handed has_log before after old new ready = (first : O) (start : Session) (over : List LineRead) (line : List ℕ) →
    IsReady handed has_log first before start over line old ready →
    (read : LineRead) × (read.line ≡ line) × Stands handed has_log first after start (over ++ read ∷ []) new.out.items new.workspace.lines
    × (new.session ≡ (turns_of start (over ++ read ∷ [])).session)

-- the outlet has failed before it had the answer
abbrev pub StopsForgetting : {O : Type 0} → Handing O → Handing O → Type 0 → O → O → Run → ReadyToForget → Type 0
StopsForgetting {O} handed stopped has_log before after old ready = (first : O) (start : Session) (over : List LineRead) (line : List ℕ) →
    IsReady handed has_log first before start over line old ready → StopsRenewing stopped first after start over line
