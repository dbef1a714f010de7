-- the store that is opened
use Rattle.std.specs.Arc.{arc_value}
use Rattle.tt_db.specs.Limits.{usual_limits}
use Rattle.tt_store.specs.Published.{IsOf}
use Rattle.tt_store_bench.proofs.run.Given as goal

abbrev pub ghosts-measure-L-Naming : goal.ghosts-measure-L-Naming
ghosts-measure-L-Naming g a = record { book = a.opened.front.book; tables = arc_value a.catalog; limits = usual_limits }

abbrev pub ghosts-measure-L-Ledger : goal.ghosts-measure-L-Ledger
ghosts-measure-L-Ledger g a = record { name = a.opened.blank.name; parts = a.opened.blank.parts }

abbrev pub ghosts-measure-L-Protocol : goal.ghosts-measure-L-Protocol
ghosts-measure-L-Protocol g a = record { holds = λ shown known. IsOf a.opened.front.book (arc_value a.catalog) usual_limits shown; first = tt }
