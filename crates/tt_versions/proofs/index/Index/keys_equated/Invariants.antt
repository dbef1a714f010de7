-- no column so far has the position
use Rattle.std.proofs.Common.{◌≡◌, drop}
use Rattle.tt_versions.specs.Index.{size_with}
use Rattle.tt_versions.proofs.index.Index.keys_equated.Given as goal

abbrev pub invariant-loop-column : goal.invariant-loop-column
invariant-loop-column l = size_with l.reach (drop l.column-index l.self.columns) l.equal ≡ size_with l.reach l.self.columns l.equal
