-- A log that is being read.
use Rattle.std.specs.Prelude.{◌≡◌, ℕ, true, List, [], ◌++◌, length, take, drop}
use Rattle.tt_log.specs.Lines.{text, joined, whole_lines_of}
use Rattle.tt_log.specs.declared.unread_log.UnreadLog.{UnreadLog}

-- the bytes of lines that are still to be read
abbrev pub unread : {D : Type 0} → (D → List ℕ) → UnreadLog D → List ℕ
unread seen log = text (drop log.at (seen log.device))

-- the log knows how far the bytes of the file have been read and where the last line ends among them
pub record IsReading {D : Type 0} (seen : D → List ℕ) (log : UnreadLog D) : Type 0 where
  pub len : log.len ≡ length (seen log.device)
  pub read : text (seen log.device) ≡ take log.at (seen log.device) ++ unread seen log
  pub end : log.end ≡ length (joined (whole_lines_of (take log.at (seen log.device))))
  pub at_end : log.is_at_end ≡ true → unread seen log ≡ []
