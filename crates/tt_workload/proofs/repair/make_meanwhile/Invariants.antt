-- the lines so far and those of the calls that are left are all, and so are the records. The repair is still under way
use Rattle.std.proofs.Common.{◌≡◌, ◌+◌, ◌++◌, length}
use Rattle.tt_workload.specs.Records.{lines_of_records}
use Rattle.tt_workload.specs.History.{with_meanwhile, records_meanwhile}
use Rattle.tt_workload.specs.Room.{AreAccepted, IsUnderWay}
use Rattle.tt_workload.proofs.repair.make_meanwhile.Given as goal

abbrev pub invariant-loop-call : goal.invariant-loop-call
invariant-loop-call l =
    let rest = l.call-iterator.rest.items in
    let worker = l.fn.administrator.worker in
    let batch = l.fn.administrator.batch in
    let made = length l.fn.records.items in
    let left = records_meanwhile worker batch (l.number + 1) l.db rest in
    let all = records_meanwhile worker batch (made + 1) l.fn.db l.fn.calls.items in
    record {
      lines : l.out.items ++ lines_of_records l.fn.json l.fn.db.catalog left ≡ l.fn.out.items ++ lines_of_records l.fn.json l.fn.db.catalog all;
      records : l.records.items ++ left ≡ l.fn.records.items ++ all;
      state : with_meanwhile worker batch l.db rest ≡ with_meanwhile worker batch l.fn.db l.fn.calls.items;
      catalog : l.db.catalog ≡ l.fn.db.catalog;
      under_way : IsUnderWay l.number l.db;
      accepted : AreAccepted l.db.catalog rest;
      number : l.number + length rest ≡ made + length l.fn.calls.items;
    }
