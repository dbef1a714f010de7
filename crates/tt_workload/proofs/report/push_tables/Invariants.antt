-- the lines so far and those of the tables that are left are all
use Rattle.std.proofs.Common.{◌≡◌, ◌++◌, drop}
use Rattle.tt_db.specs.Database.{state_of}
use Rattle.tt_workload.specs.Report.{table_lines}
use Rattle.tt_workload.proofs.report.push_tables.Given as goal

abbrev pub invariant-loop-table : goal.invariant-loop-table
invariant-loop-table l =
    l.out.items ++ table_lines l.fn.json (state_of l.db) l.table (drop l.table l.db.catalog) ≡ l.fn.out.items ++ table_lines l.fn.json (state_of l.db) 0 l.db.catalog
