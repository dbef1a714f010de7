-- the lines so far and those of the generations that are left are all
use Rattle.std.proofs.Common.{◌≡◌, ◌++◌, ◌-◌, ◌≤◌, drop}
use Rattle.tt_db.specs.Database.{state_of, oldest_in}
use Rattle.tt_workload.specs.Report.{closed_lines}
use Rattle.tt_workload.proofs.closed.push_closed.Given as goal

abbrev pub invariant-loop-generation : goal.invariant-loop-generation
invariant-loop-generation l =
    let S = state_of l.db in
    record {
      lines : l.out.items ++ closed_lines l.fn.json l.db.catalog (drop (l.generation - oldest_in l.db) S.closed) ≡ l.fn.out.items ++ closed_lines l.fn.json l.db.catalog S.closed;
      least : oldest_in l.db ≤ l.generation;
      most : l.generation ≤ S.generation;
    }
