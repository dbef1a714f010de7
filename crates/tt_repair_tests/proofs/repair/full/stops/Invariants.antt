-- the store that was just opened
use Rattle.std.specs.Arc.{arc_value}
use Rattle.tt_store.specs.Published.{IsOf}
use Rattle.tt_repair_tests.proofs.repair.full.stops.Given as goal

abbrev pub ghosts-fills-L-Naming : goal.ghosts-fills-L-Naming
ghosts-fills-L-Naming g a = record { book = a.opened.front.book; tables = arc_value a.catalog; limits = a.limits }

abbrev pub ghosts-fills-L-Ledger : goal.ghosts-fills-L-Ledger
ghosts-fills-L-Ledger g a = record { name = a.opened.blank.name; parts = a.opened.blank.parts }

abbrev pub ghosts-fills-L-Protocol : goal.ghosts-fills-L-Protocol
ghosts-fills-L-Protocol g a = record { holds = λ shown known. IsOf a.opened.front.book (arc_value a.catalog) a.limits shown; first = tt }
