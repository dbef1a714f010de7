-- the tables so far are the same, so the others tell
use Rattle.std.proofs.Common.{◌≡◌}
use Rattle.tt_session.specs.Reopening.{is_same_table}
use Rattle.tt_session.proofs.ReopeningLemmas.{are_same_from}
use Rattle.tt_session.proofs.reopening.has_same_tables.Given as goal

abbrev pub invariant-loop-table : goal.invariant-loop-table
invariant-loop-table l = are_same_from is_same_table 0 l.first l.second ≡ are_same_from is_same_table l.table l.first l.second
