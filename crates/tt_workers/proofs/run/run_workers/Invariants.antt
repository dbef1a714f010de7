-- the store that is opened
use Rattle.std.specs.Arc.{arc_value}
use Rattle.tt_db.specs.Limits.{usual_limits}
use Rattle.tt_store.specs.Published.{IsOf}
use Rattle.tt_workers.proofs.run.run_workers.Given as goal

abbrev pub ghosts-run_named-L-Naming : goal.ghosts-run_named-L-Naming
ghosts-run_named-L-Naming g a = record { book = a.opened.front.book; tables = arc_value a.catalog; limits = usual_limits }

abbrev pub ghosts-run_named-L-Ledger : goal.ghosts-run_named-L-Ledger
ghosts-run_named-L-Ledger g a = record { name = a.opened.blank.name; parts = a.opened.blank.parts }

abbrev pub ghosts-run_named-L-Protocol : goal.ghosts-run_named-L-Protocol
ghosts-run_named-L-Protocol g a = record { holds = λ shown known. IsOf a.opened.front.book (arc_value a.catalog) usual_limits shown; first = tt }
