-- the lines so far and those of the tables that are left are all
use Rattle.std.proofs.Common.{◌≡◌, ◌++◌, drop}
use Rattle.tt_db.specs.State.{slots_in}
use Rattle.tt_db.specs.Database.{state_of}
use Rattle.tt_workload.specs.Report.{slots_or_none, closed_table_lines}
use Rattle.tt_workload.proofs.closed.push_generation.Given as goal

abbrev pub invariant-loop-table : goal.invariant-loop-table
invariant-loop-table l =
    let W = slots_or_none (slots_in (state_of l.db) l.fn.generation) in
    l.out.items ++ closed_table_lines l.fn.json l.fn.generation W l.table (drop l.table l.db.catalog) ≡ l.fn.out.items ++ closed_table_lines l.fn.json l.fn.generation W 0 l.db.catalog
