-- the bytes so far are taken, and there are no more lines than bytes
use Rattle.std.proofs.Common.{◌+◌, ◌-◌, ◌≤◌, ◌++◌, ℕ, List, length, take}
use Rattle.tt_session.specs.Run.{begun, calls_of}
use Rattle.tt_durable.specs.RestoringRun.{IsRestoring}
use Rattle.tt_durable.proofs.restoring.Restoring.take.Given as goal

abbrev pub invariant-loop-from : goal.invariant-loop-from
invariant-loop-from l = record {
  within : l.from ≤ length l.bytes;
  calls : calls_of (begun l.self.session) ≤ calls_of (begun l.initial.self.session) + l.from;
  count : l.self.count ≤ l.initial.self.count + l.from;
  restoring : (given : List ℕ) → IsRestoring given l.initial.self → IsRestoring (given ++ take l.from l.bytes) l.self;
}

abbrev pub decreases-loop-from : goal.decreases-loop-from
decreases-loop-from l = length l.bytes - l.from
