use Rattle.std.proofs.Common.{◌≡◌, drop}
use Rattle.std.specs.Str.{bytes_eq}
use Rattle.tt_values.proofs.text.are_same.Given as goal

-- the bytes are the same where what is left of them is
abbrev pub invariant-loop-at : goal.invariant-loop-at
invariant-loop-at l = bytes_eq l.bytes l.others ≡ bytes_eq (drop l.at l.bytes) (drop l.at l.others)
