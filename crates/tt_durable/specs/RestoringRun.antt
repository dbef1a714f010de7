-- How far a session is read back.
use Rattle.std.specs.Prelude.{◌≡◌, ◌⊎◌, ℕ, ◌+◌, Bool, true, false, List, [], ◌∷◌, ◌++◌, length, Option, None, Some, Ok, IsErr}
use Rattle.std.specs.List.{list_all}
use Rattle.tt_session.specs.declared.session.Session.{Session}
use Rattle.tt_durable.specs.declared.restoring.Restoring.{Restoring}
use Rattle.tt_durable.specs.declared.restoring.RestoreFault.{RestoreFault}
use Rattle.tt_durable.specs.declared.restoring.RestoreFault.TheVariants as faults
use Rattle.tt_lines.specs.Lines.{HasBytes}
use Rattle.tt_session.specs.Feeds.{has_no_feed, joined}
use Rattle.tt_requests.specs.declared.log_opening.LogOpening.{LogOpening}
use Rattle.tt_requests.specs.LineValue.{value_of_line}
use Rattle.tt_requests.specs.LogOpening.{log_opening_of}
use Rattle.tt_session.specs.declared.session.Session.TheVariants as sessions
use Rattle.tt_durable.specs.declared.restoring.OpenLog.{OpenLog}
use Rattle.tt_commands.specs.Session.{OpenSession}
use Rattle.tt_session.specs.Changing.{changes_database}
use Rattle.tt_session.specs.Run.{begun}
use Rattle.tt_lines.specs.Running.{Cuts}
use Rattle.tt_commands.specs.Grounds.{opened_on}
use Rattle.tt_durable.specs.Restoring.{laid_by, repeated, ReadsLog, IsNoNext}

-- a session that is being read back was given these bytes: it has read the lines that end in them
pub record IsRestoring (given : List ℕ) (run : Restoring) : Type 0 where
  pub lines : List (List ℕ)
  pub left : List ℕ
  pub cuts : Cuts given lines left
  pub line : HasBytes run.line left
  pub reads : ReadsLog lines (begun run.session) run.ground_left
  pub fresh : begun run.session ≡ sessions.NotOpen → lines ≡ []
  pub count_is : run.count ≡ length lines

-- among these bytes the line of this number is the first one that can't be one of a log
pub record FailsAtLine (given : List ℕ) (number : ℕ) : Type 0 where
  pub front : List (List ℕ)
  pub line : List ℕ
  pub rest : List ℕ
  pub parts : given ≡ joined front ++ (line ++ 10 ∷ rest)
  pub whole : list_all has_no_feed front ≡ true
  pub no_feed : has_no_feed line ≡ true
  pub number_is : number ≡ length front + 1
  pub session : Session
  pub left : ℕ
  pub reads : ReadsLog front session left
  pub fails : IsNoNext session left line

-- it fails in this way
abbrev pub FailsIn : List ℕ → RestoreFault → Type 0
FailsIn given (faults.Line number) = FailsAtLine given number
FailsIn given fault = Unit {0}

-- of the text of a log these bytes are still to be read, if its device tells them, and the lines before them are read
pub record RestoresSoFar (tells : Type 0) (unread file_text : List ℕ) (run : Restoring) : Type 0 where
  pub given : List ℕ
  pub restoring : IsRestoring given run
  pub parts : tells → given ++ unread ≡ file_text

-- ---- one line

-- a line is the next one of the ground
pub record LaysNext (session : Session) (left : ℕ) (line : List ℕ) (next : Session) (left_after : ℕ) : Type 0 where
  pub before : OpenSession
  pub session_is : session ≡ sessions.Open before
  pub laid : OpenSession
  pub is : laid_by before line ≡ Some laid
  pub next_is : next ≡ sessions.Open laid
  pub left_is : left ≡ left_after + 1

-- a line is answered and changes the database
pub record LogsNext (session : Session) (left : ℕ) (line : List ℕ) (next : Session) (left_after : ℕ) : Type 0 where
  pub no_ground : (s : OpenSession) → session ≡ sessions.Open s → left ≡ 0
  pub after : OpenSession
  pub is_open : next ≡ sessions.Open after
  pub next_is : next ≡ repeated session line
  pub changes : changes_database session next ≡ true
  pub left_is : left_after ≡ 0

-- a line opens a session with a ground
pub record OpensGround (session : Session) (line : List ℕ) (next : Session) (left_after : ℕ) : Type 0 where
  pub session_is : session ≡ sessions.NotOpen
  pub opening : LogOpening
  pub opens : log_opening_of (value_of_line line) ≡ Ok opening
  pub next_is : next ≡ sessions.Open (opened_on opening)
  pub left_is : left_after ≡ opening.numbering.ground_slots

-- whether a line is the next one of a log
abbrev pub IsNextOrNot : Bool → Session → ℕ → List ℕ → Session → ℕ → Type 0
IsNextOrNot true session left line next left_after =
    LaysNext session left line next left_after ⊎ (LogsNext session left line next left_after ⊎ OpensGround session line next left_after)
IsNextOrNot false session left line next left_after = IsNoNext session left line

-- the first line of a log opens this, if it opens anything
abbrev pub OpensBy : List ℕ → Option OpenLog → Type 0
OpensBy line None =
    (repeated sessions.NotOpen line ≡ sessions.NotOpen) × IsErr (log_opening_of (value_of_line line))
OpensBy line (Some log) =
    ((sessions.Open log.session ≡ repeated sessions.NotOpen line) × (log.ground_slots ≡ 0))
    ⊎ OpensGround sessions.NotOpen line (sessions.Open log.session) log.ground_slots
