-- How a session between a reader and an outlet goes on: the lines that it takes from the bytes read, and whose answers are handed over.
use Rattle.std.specs.Prelude.{◌≡◌, ℕ, true, false, List, [], ◌∷◌, ◌++◌, Option, Some}
use Rattle.std.specs.List.{list_all}
use Rattle.tt_requests.specs.Lines.{is_too_long}
use Rattle.tt_requests.specs.declared.asked.ForgetRequest.{ForgetRequest}
use Rattle.tt_session.specs.declared.session.Session.{Session}
use Rattle.tt_lines.specs.declared.run.Run.{Run}
use Rattle.tt_lines.specs.Lines.{HasBytes}
use Rattle.tt_session.specs.Feeds.{has_no_feed, joined}
use Rattle.tt_session.specs.Answering.{LineRead, turns_of, lines_read}
use Rattle.tt_session.specs.Logged.{logged_of, ArePlain}
use Rattle.tt_session.specs.ForgetTurns.{AnswersLine}

-- What an outlet tells: from its state before to that after, the answers to lines that a session reads were handed over.
abbrev pub Handing : Type 0 → Type 1
Handing O = O → O → Session → List LineRead → Type 0

-- behind the first lines that a session has read, this text answers further ones, none of them by making the log anew, and these are to be logged, if there is a log
pub record AnswersKept (has_log : Type 0) (start : Session) (over kept : List LineRead) (lines : List (List ℕ)) (text : List ℕ) : Type 0 where
  pub text_is : text ≡ (turns_of (turns_of start over).session kept).text
  pub lines_are : has_log → lines ≡ logged_of (turns_of start over).session kept
  pub plain : ArePlain (turns_of start over).session kept

-- of the lines read since a session the answers to the first ones were handed over, and the text of the others is kept, with the lines of them that are to be logged
pub record Stands {O : Type 0} (handed : Handing O) (has_log : Type 0) (first outlet : O) (start : Session) (reads : List LineRead) (out : List ℕ) (lines : Option (List (List ℕ))) : Type 0 where
  pub over : List LineRead
  pub kept : List LineRead
  pub reads_are : reads ≡ over ++ kept
  pub is_handed : handed first outlet start over
  pub text_is : out ≡ (turns_of (turns_of start over).session kept).text
  pub lines_are : has_log → lines ≡ Some (logged_of (turns_of start over).session kept)
  pub plain : ArePlain (turns_of start over).session kept

-- bytes are whole lines, and the bytes of the next line so far
pub record Cuts (bytes : List ℕ) (lines : List (List ℕ)) (left : List ℕ) : Type 0 where
  pub parts : bytes ≡ joined lines ++ left
  pub whole : list_all has_no_feed lines ≡ true
  pub last : has_no_feed left ≡ true

-- a run was given these bytes since a session: it has answered the lines that end in them
pub record Serves {O : Type 0} (handed : Handing O) (has_log : Type 0) (first outlet : O) (start : Session) (given : List ℕ) (run : Run) : Type 0 where
  pub reads : List LineRead
  pub left : List ℕ
  pub cuts : Cuts given (lines_read reads) left
  pub line : HasBytes run.line left
  pub stands : Stands handed has_log first outlet start reads run.out.items run.workspace.lines
  pub session : run.session ≡ (turns_of start reads).session

-- the same, and all answers were handed over
pub record Rests {O : Type 0} (handed : Handing O) (has_log : Type 0) (first outlet : O) (start : Session) (given : List ℕ) (run : Run) : Type 0 where
  pub reads : List LineRead
  pub left : List ℕ
  pub cuts : Cuts given (lines_read reads) left
  pub line : HasBytes run.line left
  pub is_handed : handed first outlet start reads
  pub session : run.session ≡ (turns_of start reads).session
  pub out : run.out.items ≡ []
  pub lines : has_log → run.workspace.lines ≡ Some []

-- an outlet failed before it had all answers to the lines that begin these bytes, and whatever follows them
pub record Halts {O : Type 0} (stopped : Handing O) (first outlet : O) (start : Session) (given : List ℕ) : Type 0 where
  pub reads : List LineRead
  pub rest : List ℕ
  pub parts : given ≡ joined (lines_read reads) ++ rest
  pub whole : list_all has_no_feed (lines_read reads) ≡ true
  pub is_stopped : (more : List LineRead) → stopped first outlet start (reads ++ more)

-- a run takes further bytes: it answers the lines that end in them
abbrev pub Takes : {O : Type 0} → Handing O → Type 0 → O → O → List ℕ → Run → Run → Type 0
Takes {O} handed has_log before after bytes old new = (first : O) (start : Session) (given : List ℕ) →
    Serves handed has_log first before start given old → Serves handed has_log first after start (given ++ bytes) new

-- the outlet failed while a run took further bytes
abbrev pub StopsIn : {O : Type 0} → Handing O → Handing O → Type 0 → O → O → List ℕ → Run → Type 0
StopsIn {O} handed stopped has_log before after bytes old = (first : O) (start : Session) (given : List ℕ) →
    Serves handed has_log first before start given old → Halts stopped first after start (given ++ bytes)

-- there is memory for the line that a run has read: it is answered, or returned if it asks to forget
abbrev pub AnswersInMemory : Run → Run → Option ForgetRequest → Type 0
AnswersInMemory old new asked = (bytes : List ℕ) → HasBytes old.line bytes → is_too_long bytes ≡ false →
    AnswersLine old.session new.session bytes old.out.items new.out.items old.workspace.lines new.workspace.lines asked

-- a run answers a line, with memory or without, and with the log made anew for it or not
abbrev pub AnswersOne : {O : Type 0} → Handing O → Type 0 → O → O → Run → Run → Type 0
AnswersOne {O} handed has_log before after old new = (first : O) (start : Session) (reads : List LineRead) (bytes : List ℕ) → HasBytes old.line bytes →
    Stands handed has_log first before start reads old.out.items old.workspace.lines → old.session ≡ (turns_of start reads).session →
    (read : LineRead) × (read.line ≡ bytes) × Stands handed has_log first after start (reads ++ read ∷ []) new.out.items new.workspace.lines
    × (new.session ≡ (turns_of start (reads ++ read ∷ [])).session)

-- the outlet failed before it had all answers up to that of a line
abbrev pub StopsAt : {O : Type 0} → Handing O → Handing O → Type 0 → O → O → Run → Type 0
StopsAt {O} handed stopped has_log before after old = (first : O) (start : Session) (reads : List LineRead) (bytes : List ℕ) → HasBytes old.line bytes →
    Stands handed has_log first before start reads old.out.items old.workspace.lines → old.session ≡ (turns_of start reads).session →
    (read : LineRead) × (read.line ≡ bytes) × ((more : List LineRead) → stopped first after start ((reads ++ read ∷ []) ++ more))

-- a run hands over all answers that are kept
abbrev pub HandsOver : {O : Type 0} → Handing O → Type 0 → O → O → Run → Type 0
HandsOver {O} handed has_log before after old = (first : O) (start : Session) (reads : List LineRead) →
    Stands handed has_log first before start reads old.out.items old.workspace.lines → handed first after start reads

-- the outlet failed before it had all answers that are kept
abbrev pub StopsBetween : {O : Type 0} → Handing O → Handing O → Type 0 → O → O → Run → Type 0
StopsBetween {O} handed stopped has_log before after old = (first : O) (start : Session) (reads more : List LineRead) →
    Stands handed has_log first before start reads old.out.items old.workspace.lines → stopped first after start (reads ++ more)

-- the answers so far stand as they did
abbrev pub StandsOn : {O : Type 0} → Handing O → Type 0 → O → O → Run → Run → Type 0
StandsOn {O} handed has_log before after old new = (first : O) (start : Session) (reads : List LineRead) →
    Stands handed has_log first before start reads old.out.items old.workspace.lines → Stands handed has_log first after start reads new.out.items new.workspace.lines

-- what a short answer needs: it answers a line behind those that are read, and this changes nothing
pub record IsShort (start : Session) (reads : List LineRead) (read : LineRead) (text : List ℕ) : Type 0 where
  pub text_is : text ≡ (turns_of (turns_of start reads).session (read ∷ [])).text
  pub not_logged : logged_of (turns_of start reads).session (read ∷ []) ≡ []
  pub plain : ArePlain (turns_of start reads).session (read ∷ [])

-- a run hands over all answers that are kept, and a short one behind them
abbrev pub HandsOverShort : {O : Type 0} → Handing O → Type 0 → O → O → Run → List ℕ → Type 0
HandsOverShort {O} handed has_log before after old text = (first : O) (start : Session) (reads : List LineRead) (read : LineRead) →
    Stands handed has_log first before start reads old.out.items old.workspace.lines → IsShort start reads read text → handed first after start (reads ++ read ∷ [])

-- the outlet failed before it had them
abbrev pub StopsInShort : {O : Type 0} → Handing O → Handing O → Type 0 → O → O → Run → List ℕ → Type 0
StopsInShort {O} handed stopped has_log before after old text = (first : O) (start : Session) (reads : List LineRead) (read : LineRead) (more : List LineRead) →
    Stands handed has_log first before start reads old.out.items old.workspace.lines → IsShort start reads read text → stopped first after start ((reads ++ read ∷ []) ++ more)
