-- Which lines of a session its log has: the one that opens it, and those that change its database. When the session forgets what lies before a time, its log is made anew.
use Rattle.std.specs.Prelude.{◌≡◌, ℕ, ◌&&◌, Bool, true, false, List, [], ◌∷◌, ◌++◌, Option, None, Some, if◌then◌else◌}
use Rattle.tt_session.specs.declared.session.Session.{Session}
use Rattle.tt_session.specs.Changing.{changes_database, line_asks_to_forget}
use Rattle.tt_session.specs.Answering.{LineRead, turn_of_read}
use Rattle.tt_session.specs.LogLines.{lines_of_log}

-- a line in front of others, if it is logged
abbrev pub with_line_if : Bool → List ℕ → List (List ℕ) → List (List ℕ)
with_line_if true line lines = line ∷ lines
with_line_if false line lines = lines

-- a line that leads from one session to another, if it changes the database
abbrev pub logged_by : Session → Session → List ℕ → List (List ℕ)
logged_by old new line = with_line_if (changes_database old new) line []

-- of the lines that are read, those that change the database
abbrev pub logged_of : Session → List LineRead → List (List ℕ)
logged_of session [] = []
logged_of session (read ∷ reads) =
    let next = (turn_of_read session read).session in
    with_line_if (changes_database session next) read.line (logged_of next reads)

-- whether the log is made anew for a line that is read: the session forgets something by it
abbrev pub makes_log_anew : Session → LineRead → Bool
makes_log_anew session read = line_asks_to_forget session read.line && changes_database session (turn_of_read session read).session

-- the lines of a log after a line is read: they are made anew; else the line stands behind them, if it changes the database
abbrev pub log_next : List (List ℕ) → Session → LineRead → List (List ℕ)
log_next lines session read =
    let next = (turn_of_read session read).session in
    if makes_log_anew session read then lines_of_log next else lines ++ logged_by session next read.line

-- the lines of a log after lines are read
abbrev pub log_after : List (List ℕ) → Session → List LineRead → List (List ℕ)
log_after lines session [] = lines
log_after lines session (read ∷ reads) = log_after (log_next lines session read) (turn_of_read session read).session reads

-- the log isn't made anew for a line that is read, and needn't be
pub record IsPlain (session : Session) (read : LineRead) : Type 0 where
  pub not_unlogged : read.is_unlogged ≡ false
  pub not_anew : makes_log_anew session read ≡ false

abbrev pub ArePlain : Session → List LineRead → Type 0
ArePlain session [] = Unit {0}
ArePlain session (read ∷ reads) = IsPlain session read × ArePlain (turn_of_read session read).session reads

-- lines that are to be logged with further ones, where there is a log
abbrev pub with_lines : Option (List (List ℕ)) → List (List ℕ) → Option (List (List ℕ))
with_lines None more = None
with_lines (Some lines) more = Some (lines ++ more)
