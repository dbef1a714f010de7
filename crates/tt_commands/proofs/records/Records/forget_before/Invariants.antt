-- the records that are still to be moved, those that were moved and are still there, and how many rows they have
use Rattle.std.proofs.Common.{◌≡◌, ◌≤◌, ◌++◌, length, take, drop}
use Rattle.tt_commands.specs.Records.{max_record_rows, rows_of_records}
use Rattle.tt_commands.specs.Changes.{records_behind}
use Rattle.tt_commands.proofs.records.Records.forget_before.Given as goal

abbrev pub invariant-loop : goal.invariant-loop
invariant-loop l = record {
  queue : l.self-inside.queue.items ≡ drop l.counter l.initial.self-inside.queue.items ++ records_behind l.time l.ground_slots (take l.counter l.initial.self-inside.queue.items);
  rows : l.self-inside.rows ≡ rows_of_records l.self-inside.queue.items;
  few : l.self-inside.rows ≤ max_record_rows;
  end : l.end ≡ length l.initial.self-inside.queue.items;
}
