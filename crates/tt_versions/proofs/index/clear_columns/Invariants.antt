-- the columns so far have no keys
use Rattle.std.proofs.Common.{take}
use Rattle.std.specs.List.{All}
use Rattle.tt_versions.specs.Index.{HasNoKeys}
use Rattle.tt_versions.proofs.index.clear_columns.Given as goal

abbrev pub invariant-loop-column : goal.invariant-loop-column
invariant-loop-column l = All HasNoKeys (take l.column-index l.column-items)
