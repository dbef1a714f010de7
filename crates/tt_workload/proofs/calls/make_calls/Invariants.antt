-- the lines so far and those of the calls that are left are all, and so are the records. There is room for the calls that are left
use Rattle.std.proofs.Common.{◌≡◌, ◌+◌, ◌++◌, length}
use Rattle.tt_workload.specs.Records.{kept, lines_of_records}
use Rattle.tt_workload.specs.History.{history_of, records_of}
use Rattle.tt_workload.specs.Room.{AreAccepted, IsBefore}
use Rattle.tt_workload.proofs.calls.make_calls.Given as goal

abbrev pub invariant-loop-call : goal.invariant-loop-call
invariant-loop-call l = let rest = l.call-iterator.rest.items in record {
  lines : l.out.items ++ lines_of_records l.fn.json l.fn.db.catalog (records_of (l.number + 1) l.db rest) ≡ l.fn.out.items ++ lines_of_records l.fn.json l.fn.db.catalog (records_of 1 l.fn.db l.fn.calls.items);
  records : l.records.items ++ kept l.fn.are_kept (records_of (l.number + 1) l.db rest) ≡ l.fn.records.items ++ kept l.fn.are_kept (records_of 1 l.fn.db l.fn.calls.items);
  state : l.db.history ++ history_of rest ≡ l.fn.db.history ++ history_of l.fn.calls.items;
  catalog : l.db.catalog ≡ l.fn.db.catalog;
  limits : l.db.limits ≡ l.fn.db.limits;
  before : IsBefore l.number l.db;
  accepted : AreAccepted l.db.catalog rest;
  number : l.number + length rest ≡ length l.fn.calls.items;
}
