-- The line that is being read, of which only the first bytes are kept.
use Rattle.std.specs.Prelude.{◌≡◌, ℕ, Bool, false, List, length, take, min}
use Rattle.tt_requests.specs.Lines.{is_blank}
use Rattle.tt_lines.specs.declared.line.Line.{Line}

-- how many bytes of a line matter: one more than a line may have
abbrev pub max_bytes_kept : ℕ
max_bytes_kept = 16777217

-- a line that is being read has these bytes so far
pub record HasBytes (line : Line) (bytes : List ℕ) : Type 0 where
  pub len : line.len ≡ min (length bytes) max_bytes_kept
  pub blank : line.is_blank ≡ is_blank bytes
  pub kept : line.is_lost ≡ false → line.kept.items ≡ take max_bytes_kept bytes

-- this is what a definition says of the bytes of the line that is being read
abbrev pub IsToldBy : (List ℕ → Bool) → Line → Bool → Type 0
IsToldBy definition line told = (bytes : List ℕ) → HasBytes line bytes → told ≡ definition bytes
