-- Lines that are to be logged with the next answers, where there is a log.
use Rattle.std.specs.Prelude.{ℕ, ◌+◌, nat_le, Bool, List, [], length, Option, None, Some}
use Rattle.tt_log.specs.Lines.{joined}

-- how many bytes they have in a log
abbrev pub bytes_of : Option (List (List ℕ)) → ℕ
bytes_of None = 0
bytes_of (Some lines) = length (joined lines)

-- none of them
abbrev pub no_lines : Option (List (List ℕ)) → Option (List (List ℕ))
no_lines None = None
no_lines (Some lines) = Some []

-- as many bytes of answers, and of lines to log with them, are handed over before a further line is answered
abbrev pub many_bytes : ℕ
many_bytes = 1048576

-- whether as many bytes are kept: this many of answers, and those of lines to log
abbrev pub is_much : ℕ → Option (List (List ℕ)) → Bool
is_much answers kept = nat_le many_bytes (answers + bytes_of kept)
