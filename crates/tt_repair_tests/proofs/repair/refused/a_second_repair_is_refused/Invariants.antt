-- the store that was just opened
use Rattle.std.specs.Arc.{arc_value}
use Rattle.tt_db.specs.Limits.{usual_limits}
use Rattle.tt_store.specs.Published.{IsOf}
use Rattle.tt_repair_tests.proofs.repair.refused.a_second_repair_is_refused.Given as goal

abbrev pub ghosts-begins_twice-L-Naming : goal.ghosts-begins_twice-L-Naming
ghosts-begins_twice-L-Naming g a = record { book = a.opened.front.book; tables = arc_value a.catalog; limits = usual_limits }

abbrev pub ghosts-begins_twice-L-Ledger : goal.ghosts-begins_twice-L-Ledger
ghosts-begins_twice-L-Ledger g a = record { name = a.opened.blank.name; parts = a.opened.blank.parts }

abbrev pub ghosts-begins_twice-L-Protocol : goal.ghosts-begins_twice-L-Protocol
ghosts-begins_twice-L-Protocol g a = record { holds = λ shown known. IsOf a.opened.front.book (arc_value a.catalog) usual_limits shown; first = tt }
