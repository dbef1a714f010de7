-- The bytes so far stand escaped behind the opening quote.
use Rattle.std.proofs.Common.{◌≡◌, [], ◌∷◌, ◌++◌, take}
use Rattle.std.specs.List.{flat_map}
use Rattle.tt_grammar.specs.Quoting.{escape}
use Rattle.tt_grammar.proofs.quoting.push_quoted.Given as goal

abbrev pub invariant-loop-byte : goal.invariant-loop-byte
invariant-loop-byte l = l.out.items ≡ (l.fn.out.items ++ 34 ∷ []) ++ flat_map escape (take l.byte-index l.text)
