-- What the bytes of a log stand for, whatever a crash left of them.
use Rattle.std.specs.Prelude.{◌≡◌, ◌≢◌, ℕ, ◌+◌, List, [], ◌∷◌, ◌++◌, length, replicate, if◌then◌else◌, ◌==◌}

-- the bytes before the first 0
abbrev pub text : List ℕ → List ℕ
text [] = []
text (b ∷ bytes) = if b == 0 then [] else b ∷ text bytes

-- lines with a byte in front, which belongs to the first of them, if there is one
abbrev pub with_byte_if : ℕ → List (List ℕ) → List (List ℕ)
with_byte_if b [] = []
with_byte_if b (line ∷ lines) = (b ∷ line) ∷ lines

-- the lines that end in a line feed, which isn't part of them
abbrev pub whole_lines_of : List ℕ → List (List ℕ)
whole_lines_of [] = []
whole_lines_of (b ∷ bytes) = if b == 10 then [] ∷ whole_lines_of bytes else with_byte_if b (whole_lines_of bytes)

-- the lines of a log: those that end before the first byte 0
abbrev pub logged : List ℕ → List (List ℕ)
logged bytes = whole_lines_of (text bytes)

-- lines with a line feed behind each
abbrev pub joined : List (List ℕ) → List ℕ
joined [] = []
joined (line ∷ lines) = line ++ 10 ∷ joined lines

-- where the last of the lines ends that begin at a place; where there is none, an earlier end
abbrev pub end_behind : ℕ → ℕ → List (List ℕ) → ℕ
end_behind end at [] = end
end_behind end at (line ∷ lines) = at + length (joined (line ∷ lines))

abbrev pub zeros : ℕ → List ℕ
zeros n = replicate n 0

-- no byte of it is 0 or a line feed
abbrev pub IsLine : List ℕ → Type 0
IsLine [] = Unit {0}
IsLine (b ∷ bytes) = (b ≢ 0) × (b ≢ 10) × IsLine bytes

abbrev pub AreLines : List (List ℕ) → Type 0
AreLines [] = Unit {0}
AreLines (line ∷ lines) = IsLine line × AreLines lines

-- these bytes are lines, and nothing else
abbrev pub IsJoined : List ℕ → Type 0
IsJoined bytes = bytes ≡ joined (logged bytes)
