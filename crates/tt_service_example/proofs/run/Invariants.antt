-- the store that is opened
use Rattle.std.specs.Arc.{arc_value}
use Rattle.tt_db.specs.Limits.{usual_limits}
use Rattle.tt_store.specs.Published.{IsOf}
use Rattle.tt_service_example.proofs.run.Given as goal

abbrev pub ghosts-serve-L-Naming : goal.ghosts-serve-L-Naming
ghosts-serve-L-Naming g a = record { book = a.opened.front.book; tables = arc_value a.catalog; limits = usual_limits }

abbrev pub ghosts-serve-L-Ledger : goal.ghosts-serve-L-Ledger
ghosts-serve-L-Ledger g a = record { name = a.opened.blank.name; parts = a.opened.blank.parts }

abbrev pub ghosts-serve-L-Protocol : goal.ghosts-serve-L-Protocol
ghosts-serve-L-Protocol g a = record { holds = λ shown known. IsOf a.opened.front.book (arc_value a.catalog) usual_limits shown; first = tt }
