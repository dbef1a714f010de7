-- How a session is read back from the lines of a log: the ground is laid, if there is one, and each line behind it is answered and changes the database.
use Rattle.std.specs.Prelude.{◌≡◌, ℕ, ◌+◌, ◌<◌, true, false, List, [], ◌∷◌, ◌++◌, length, Option, None, Some, option_and_then, Ok, IsErr}
use Rattle.tt_requests.specs.declared.log_opening.LogOpening.{LogOpening}
use Rattle.tt_requests.specs.LineValue.{value_of_line}
use Rattle.tt_requests.specs.LogOpening.{log_opening_of}
use Rattle.tt_requests.specs.GroundAction.{ground_action_of}
use Rattle.tt_session.specs.declared.session.Session.{Session}
use Rattle.tt_session.specs.declared.session.Session.TheVariants as sessions
use Rattle.tt_commands.specs.Session.{OpenSession}
use Rattle.tt_session.specs.Answering.{LineRead, turn_of_read, turns_of}
use Rattle.tt_session.specs.LogLines.{lines_of_log}
use Rattle.tt_session.specs.Changing.{changes_database}
use Rattle.tt_session.specs.Logged.{makes_log_anew, log_after}
use Rattle.tt_session.specs.Together.{kept_line}
use Rattle.tt_commands.specs.Grounds.{opened_on, with_ground}

-- ---- the ground

-- the session after a line of the ground, if it is one
abbrev pub laid_by : OpenSession → List ℕ → Option OpenSession
laid_by session line = with_ground session (ground_action_of session.database.catalog (value_of_line line))

abbrev pub laid_by_lines : OpenSession → List (List ℕ) → Option OpenSession
laid_by_lines session [] = Some session
laid_by_lines session (line ∷ lines) = option_and_then (λ next. laid_by_lines next lines) (laid_by session line)

-- lines begin a log with a ground: its opening, and the slots of the ground but for this many, which are still to come
pub record LaysGround (lines : List (List ℕ)) (session : OpenSession) (left : ℕ) : Type 0 where
  pub line : List ℕ
  pub slots : List (List ℕ)
  pub lines_are : lines ≡ line ∷ slots
  pub opening : LogOpening
  pub opens : log_opening_of (value_of_line line) ≡ Ok opening
  pub count : length slots + left ≡ opening.numbering.ground_slots
  pub laid : laid_by_lines (opened_on opening) slots ≡ Some session

-- what the lines of a log begin with: a ground, or nothing
abbrev pub BeginsLog : List (List ℕ) → Session → ℕ → Type 0
BeginsLog lines sessions.NotOpen left = (lines ≡ []) × (left ≡ 0)
BeginsLog lines (sessions.Open session) left = LaysGround lines session left

-- ---- the lines of a log

-- the session after a line of its log
abbrev pub repeated : Session → List ℕ → Session
repeated session line = (turn_of_read session (kept_line line)).session

abbrev pub repeated_all : Session → List (List ℕ) → Session
repeated_all session [] = session
repeated_all session (line ∷ lines) = repeated_all (repeated session line) lines

-- each of these lines changes the database
abbrev pub AllChange : Session → List (List ℕ) → Type 0
AllChange session [] = Unit {0}
AllChange session (line ∷ lines) = (changes_database session (repeated session line) ≡ true) × AllChange (repeated session line) lines

-- these are lines of a log, and make this session; this many slots of the ground are still to come
pub record ReadsLog (lines : List (List ℕ)) (session : Session) (left : ℕ) : Type 0 where
  pub first : List (List ℕ)
  pub others : List (List ℕ)
  pub lines_are : lines ≡ first ++ others
  pub base : Session
  pub begins : BeginsLog first base left
  pub ground_first : 0 < left → others ≡ []
  pub all_change : AllChange base others
  pub session_is : session ≡ repeated_all base others

-- a session that was read back has accepted no opening since
abbrev pub restored : Session → Session
restored (sessions.Open session) = sessions.Open (record session { has_opening = false })
restored session = session

-- lines are those of a log, and this is the session that they make
pub record Restores (lines : List (List ℕ)) (session : Session) : Type 0 where
  pub after : Session
  pub reads : ReadsLog lines after 0
  pub session_is : session ≡ restored after

-- a line isn't one of the ground of a session
abbrev pub IsNoGround : Session → List ℕ → Type 0
IsNoGround (sessions.Open session) line = laid_by session line ≡ None
IsNoGround session line = Unit {0}

-- a line can't be the next one of a log
pub record IsNoNext (session : Session) (left : ℕ) (line : List ℕ) : Type 0 where
  pub no_ground : 0 < left → IsNoGround session line
  pub no_change : left ≡ 0 → changes_database session (repeated session line) ≡ false
  pub no_opening : session ≡ sessions.NotOpen → IsErr (log_opening_of (value_of_line line))

-- lines can't be the further ones of a log: none of them are there, but some of the ground are still to come; or the first can't be the next one
abbrev pub IsNoLog : Session → ℕ → List (List ℕ) → Type 0
IsNoLog session left [] = 0 < left
IsNoLog session left (line ∷ lines) = IsNoNext session left line

-- the line of this number, counted from 1, is the first one that can't be one of a log
pub record IsNoLine (lines : List (List ℕ)) (number : ℕ) : Type 0 where
  pub front : List (List ℕ)
  pub others : List (List ℕ)
  pub lines_are : lines ≡ front ++ others
  pub number_is : number ≡ length front + 1
  pub session : Session
  pub left : ℕ
  pub reads : ReadsLog front session left
  pub fails : IsNoLog session left others

-- ---- what is read back

-- two sessions have the same database, tell their numbers alike, and have the same stamps
pub record IsAlike (one other : OpenSession) : Type 0 where
  pub database : one.database ≡ other.database
  pub numbering : one.numbering ≡ other.numbering
  pub stamps : one.stamps ≡ other.stamps

-- a session from the lines of a log alone is like one that goes on
abbrev pub IsLike : Session → Session → Type 0
IsLike read sessions.NotOpen = read ≡ sessions.NotOpen
IsLike read (sessions.Open session) = (s : OpenSession) × (read ≡ sessions.Open s) × IsAlike s session

-- lines are a log of a session: they are read back, and make one with the same database and the same stamps that tells its numbers alike
pub record IsLogOf (lines : List (List ℕ)) (session : Session) : Type 0 where
  pub read : Session
  pub reads : ReadsLog lines read 0
  pub alike : IsLike read session

-- where lines are read, each log that is made anew is one of the session then
abbrev pub NewLogsAreRead : Session → List LineRead → Type 0
NewLogsAreRead session [] = Unit {0}
NewLogsAreRead session (read ∷ reads) =
    let next = (turn_of_read session read).session in
    (makes_log_anew session read ≡ true → IsLogOf (lines_of_log next) next) × NewLogsAreRead next reads

-- whatever a crash leaves of a session, the next start reads back: the log after the first lines that were read is one of the session then
abbrev pub LogsAreReadBack : Type 0
LogsAreReadBack = (lines : List (List ℕ)) (start : Session) (front others : List LineRead) → Restores lines start → NewLogsAreRead start (front ++ others) →
    IsLogOf (log_after lines start front) (turns_of start front).session

-- lines are read back in one way, if they are those of a log: they make one session, and none of them is refused
abbrev pub LogsAreReadInOneWay : Type 0
LogsAreReadInOneWay = (lines : List (List ℕ)) (session : Session) → ReadsLog lines session 0 →
    ((other : Session) (left : ℕ) → ReadsLog lines other left → (other ≡ session) × (left ≡ 0)) × ((number : ℕ) → IsNoLine lines number → ⊥)
