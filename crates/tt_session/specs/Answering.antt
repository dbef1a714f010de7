-- Lines that are read, and how a session answers them: with or without memory for each, and whether its log could be made anew.
use Rattle.std.specs.Prelude.{◌≡◌, ℕ, ◌+◌, ◌&&◌, not, Bool, false, List, [], ◌∷◌, ◌++◌, map, if◌then◌else◌}
use Rattle.tt_requests.specs.Lines.{is_too_long, is_passed_over}
use Rattle.tt_requests.specs.LineValue.{value_of_line}
use Rattle.tt_requests.specs.SessionLine.{is_opening}
use Rattle.tt_answers.specs.declared.answer.Refusal.TheVariants as refusals
use Rattle.tt_answers.specs.declared.answer.Answer.TheVariants as answers
use Rattle.tt_session.specs.declared.session.Session.{Session}
use Rattle.tt_session.specs.declared.session.Session.TheVariants as sessions
use Rattle.tt_commands.specs.Session.{counted}
use Rattle.tt_session.specs.Changing.{changes_database, line_asks_to_forget}
use Rattle.tt_session.specs.Run.{Turn, turn_of_answer, turn_by_value, turn_without_memory}

-- a line that was read, whether there was no memory for it, whether it had been read as an opening by then, and whether the log couldn't be made anew for it
pub record LineRead : Type 0 where
  pub is_lost : Bool
  pub as_opening : Bool
  pub is_unlogged : Bool
  pub line : List ℕ

-- whether a session forgets what lies before a time by a line
abbrev pub forgets_by : Session → List ℕ → Bool
forgets_by session line = line_asks_to_forget session line && changes_database session (turn_by_value session (value_of_line line)).session

-- a session doesn't forget, since its log couldn't be made anew
abbrev pub turn_without_log : Session → Turn
turn_without_log (sessions.Open session) = turn_of_answer (counted session) (answers.Refused refusals.Log)
turn_without_log session = record { text = []; session = session }

-- a line that was read is passed over or answered
abbrev pub turn_of_read : Session → LineRead → Turn
turn_of_read session read =
    if is_passed_over read.line then record { text = []; session = session } else (
    if not (is_too_long read.line) && read.is_lost then turn_without_memory (read.as_opening && is_opening (value_of_line read.line)) session else (
    if read.is_unlogged && forgets_by session read.line then turn_without_log session else
    turn_by_value session (value_of_line read.line)))

-- lines that were read are answered one after another
abbrev pub turns_of : Session → List LineRead → Turn
turns_of session [] = record { text = []; session = session }
turns_of session (read ∷ reads) =
    let turn = turn_of_read session read in
    let others = turns_of turn.session reads in
    record { text = turn.text ++ others.text; session = others.session }

-- the lines without what is known of their memory and of the log
abbrev pub lines_read : List LineRead → List (List ℕ)
lines_read reads = map (λ (r : LineRead). r.line) reads

-- no line was refused since the log couldn't be made anew for it
abbrev pub AllLogged : List LineRead → Type 0
AllLogged [] = Unit {0}
AllLogged (read ∷ reads) = (read.is_unlogged ≡ false) × AllLogged reads

-- how many of the lines were refused since the log couldn't be made anew for them
abbrev pub unlogged_count : List LineRead → ℕ
unlogged_count [] = 0
unlogged_count (read ∷ reads) = (if read.is_unlogged then 1 else 0) + unlogged_count reads
