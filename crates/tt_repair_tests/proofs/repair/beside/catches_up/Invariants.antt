-- the store that was just opened
use Rattle.std.specs.Arc.{arc_value}
use Rattle.tt_db.specs.Limits.{usual_limits}
use Rattle.tt_store.specs.Published.{IsOf}
use Rattle.tt_repair_tests.proofs.repair.beside.catches_up.Given as goal

abbrev pub ghosts-repairs_beside_an_insert-L-Naming : goal.ghosts-repairs_beside_an_insert-L-Naming
ghosts-repairs_beside_an_insert-L-Naming g a = record { book = a.opened.front.book; tables = arc_value a.catalog; limits = usual_limits }

abbrev pub ghosts-repairs_beside_an_insert-L-Ledger : goal.ghosts-repairs_beside_an_insert-L-Ledger
ghosts-repairs_beside_an_insert-L-Ledger g a = record { name = a.opened.blank.name; parts = a.opened.blank.parts }

abbrev pub ghosts-repairs_beside_an_insert-L-Protocol : goal.ghosts-repairs_beside_an_insert-L-Protocol
ghosts-repairs_beside_an_insert-L-Protocol g a = record { holds = λ shown known. IsOf a.opened.front.book (arc_value a.catalog) usual_limits shown; first = tt }
