-- the runs so far, and the results that are left
use Rattle.std.proofs.Common.{◌≡◌, ◌+◌, ◌≤◌, ◌++◌, Ok, IfErr, All, map, length, vec_len, vec_capacity}
use Rattle.tt_workers.specs.Faults.{IsStoreFault}
use Rattle.tt_workers.proofs.threads.collect_runs.Given as goal

abbrev pub invariant-loop-result : goal.invariant-loop-result
invariant-loop-result g l = record {
  runs : map Ok l.runs.items ++ l.result-iterator.rest.items ≡ l.fn.results.items;
  faults : All (λ r. IfErr r IsStoreFault) l.result-iterator.rest.items;
  room : vec_len l.runs + length l.result-iterator.rest.items ≤ vec_capacity l.runs;
}
