-- the store that was just opened
use Rattle.std.specs.Arc.{arc_value}
use Rattle.tt_db.specs.Limits.{usual_limits}
use Rattle.tt_store.specs.Published.{IsOf}
use Rattle.tt_program_memory_tests.proofs.memory.tries.Given as goal

abbrev pub ghosts-plays_named-L-Naming : goal.ghosts-plays_named-L-Naming
ghosts-plays_named-L-Naming g a = record { book = a.opened.front.book; tables = arc_value a.catalog; limits = usual_limits }

abbrev pub ghosts-plays_named-L-Ledger : goal.ghosts-plays_named-L-Ledger
ghosts-plays_named-L-Ledger g a = record { name = a.opened.blank.name; parts = a.opened.blank.parts }

abbrev pub ghosts-plays_named-L-Protocol : goal.ghosts-plays_named-L-Protocol
ghosts-plays_named-L-Protocol g a = record { holds = λ shown known. IsOf a.opened.front.book (arc_value a.catalog) usual_limits shown; first = tt }
