-- What a crash leaves of a file that was written.
use Rattle.std.specs.Prelude.{◌≡◌, ◌⊎◌, ℕ, ◌+◌, ◌-◌, ◌≤◌, List, [], ◌∷◌, ◌++◌, length, take, drop, replicate}

-- each byte is the old one or the new one at its place
abbrev pub IsMix : List ℕ → List ℕ → List ℕ → Type 0
IsMix [] [] [] = Unit {0}
IsMix (o ∷ old) (n ∷ new) (a ∷ after) = ((a ≡ o) ⊎ (a ≡ n)) × IsMix old new after
IsMix old new after = ⊥

-- a file with these bytes written over those that it has at a place
abbrev pub written_over : List ℕ → ℕ → List ℕ → List ℕ
written_over file at bytes = take at file ++ bytes ++ drop (at + length bytes) file

-- a write: in its range each byte is the old one or the new one, elsewhere the old one
abbrev pub MayBeWritten : ℕ → List ℕ → List ℕ → List ℕ → Type 0
MayBeWritten at bytes old after = IsMix old (written_over old at bytes) after

-- a file that was made longer: its length is the old one or any up to the new one, and what is new is 0
pub record MayBeLonger (len : ℕ) (old after : List ℕ) : Type 0 where
  pub more : ℕ
  pub longer : after ≡ old ++ replicate more 0
  pub no_longer : more ≤ len - length old

-- a file that was cut: its length is any from the new one on, and nothing else is other
pub record MayBeCut (len : ℕ) (old after : List ℕ) : Type 0 where
  pub kept : ℕ
  pub no_shorter : len ≤ kept
  pub cut : after ≡ take kept old

-- a file that was written, made longer or cut, and nothing of that is missing
abbrev pub IsWritten : ℕ → List ℕ → List ℕ → List ℕ → Type 0
IsWritten at bytes old after = after ≡ written_over old at bytes

abbrev pub IsLonger : ℕ → List ℕ → List ℕ → Type 0
IsLonger len old after = after ≡ old ++ replicate (len - length old) 0

abbrev pub IsCut : ℕ → List ℕ → List ℕ → Type 0
IsCut len old after = after ≡ take len old
