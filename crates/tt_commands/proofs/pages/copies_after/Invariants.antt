-- the copies so far are those of the rows so far
use Rattle.std.proofs.Common.{◌≡◌, Some, take}
use Rattle.tt_db.specs.Pages.{rows_after}
use Rattle.tt_commands.proofs.pages.copies_after.Given as goal

abbrev pub invariant-loop-row : goal.invariant-loop-row
invariant-loop-row l = l.copies.items ≡ rows_after (Some l.key) (take l.row-index l.rows)
