-- what is to be kept stays the same, and the sum is right
use Rattle.std.proofs.Common.{◌≡◌, length}
use Rattle.tt_commands.specs.Records.{last_records, rows_of_records}
use Rattle.tt_commands.proofs.records.keep_last.Given as goal

abbrev pub invariant-loop-queue : goal.invariant-loop-queue
invariant-loop-queue l = record {
  records : last_records l.most l.queue.items ≡ last_records l.most l.initial.queue.items;
  rows : l.rows ≡ rows_of_records l.queue.items;
}

abbrev pub decreases-loop-queue : goal.decreases-loop-queue
decreases-loop-queue l = length l.queue.items
