-- The read isn't refused: the time is the last one of a generation that can be read.
use Rattle.std.proofs.Common.{◌≡◌, Ok, sym, ap, ◌∙◌}
use Rattle.tt_db.specs.Database.{state_of}
use Rattle.tt_workload.proofs.ClosedLemmas.{answer-at_last, only-memory}
use Rattle.tt_workload.proofs.closed.last_rows.Goals as goal
