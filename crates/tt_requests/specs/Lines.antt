-- The lines of a session's input, and which of them are requests.
use Rattle.std.specs.Prelude.{ℕ, ◌==◌, ◌&&◌, ◌||◌, not, nat_lt, Bool, List, [], ◌∷◌, length, if◌then◌else◌}
use Rattle.std.specs.List.{list_all}

-- lines with a byte in front, which belongs to the first of them, and is a line of its own where there is none
abbrev pub with_byte : ℕ → List (List ℕ) → List (List ℕ)
with_byte b [] = (b ∷ []) ∷ []
with_byte b (line ∷ lines) = (b ∷ line) ∷ lines

-- the lines of some bytes: each goes up to a line feed, which isn't part of it. Bytes after the last line feed are a line, too, if there are any
abbrev pub lines_of : List ℕ → List (List ℕ)
lines_of [] = []
lines_of (b ∷ bytes) = if b == 10 then [] ∷ lines_of bytes else with_byte b (lines_of bytes)

-- lines with a byte in front, which belongs to the first of them, if there is one
abbrev pub with_byte_if : ℕ → List (List ℕ) → List (List ℕ)
with_byte_if b [] = []
with_byte_if b (line ∷ lines) = (b ∷ line) ∷ lines

-- the lines that end in a line feed
abbrev pub whole_lines_of : List ℕ → List (List ℕ)
whole_lines_of [] = []
whole_lines_of (b ∷ bytes) = if b == 10 then [] ∷ whole_lines_of bytes else with_byte_if b (whole_lines_of bytes)

-- the largest length of a line, in bytes
abbrev pub max_line_bytes : ℕ
max_line_bytes = 16777216

-- whether a line is longer than that
abbrev pub is_too_long : List ℕ → Bool
is_too_long line = nat_lt max_line_bytes (length line)

-- whether a byte is a tab, a carriage return or a space
abbrev pub is_blank_byte : ℕ → Bool
is_blank_byte b = (b == 9) || (b == 13) || (b == 32)

-- whether a line has no other byte
abbrev pub is_blank : List ℕ → Bool
is_blank line = list_all is_blank_byte line

-- whether a line is passed over: it is blank, and not too long, and gets no answer
abbrev pub is_passed_over : List ℕ → Bool
is_passed_over line = not (is_too_long line) && is_blank line
