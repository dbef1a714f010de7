-- the store that was just opened
use Rattle.std.specs.Arc.{arc_value}
use Rattle.tt_db.specs.Limits.{usual_limits}
use Rattle.tt_store.specs.Published.{IsOf}
use Rattle.tt_store_tests.proofs.store.held.holds.Given as goal

abbrev pub ghosts-holds_named-L-Naming : goal.ghosts-holds_named-L-Naming
ghosts-holds_named-L-Naming g a = record { book = a.opened.front.book; tables = arc_value a.catalog; limits = usual_limits }

abbrev pub ghosts-holds_named-L-Ledger : goal.ghosts-holds_named-L-Ledger
ghosts-holds_named-L-Ledger g a = record { name = a.opened.blank.name; parts = a.opened.blank.parts }

abbrev pub ghosts-holds_named-L-Protocol : goal.ghosts-holds_named-L-Protocol
ghosts-holds_named-L-Protocol g a = record { holds = λ shown known. IsOf a.opened.front.book (arc_value a.catalog) usual_limits shown; first = tt }
