use Rattle.std.proofs.Common.{◌≡◌, drop}
use Rattle.std.specs.Str.{bytes_eq}
use Rattle.tt_json.proofs.names.are_same.Given as goal

-- the names are the same where what is left of them is
abbrev pub invariant-loop-at : goal.invariant-loop-at
invariant-loop-at l = bytes_eq l.name l.wanted ≡ bytes_eq (drop l.at l.name) (drop l.at l.wanted)
