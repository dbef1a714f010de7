-- whatever the worker makes of the calls that are left, with the answers so far it is what it makes of all
use Rattle.std.proofs.Common.{◌≡◌, ◌+◌, drop, length}
use Rattle.tt_workload.specs.Room.{AreAccepted}
use Rattle.tt_workers.proofs.WorkLemmas.{Continues}
use Rattle.tt_workers.proofs.work.work.Given as goal

abbrev pub invariant-loop-call : goal.invariant-loop-call
invariant-loop-call g l = let rest = drop l.call-index l.calls in record {
  continues : Continues g.L.Naming.limits l.fn.first l.calls l.fn.worker l.run.answers.items l.number rest l.run.worker;
  number : l.number + length rest ≡ l.fn.first + length l.calls;
  accepted : AreAccepted g.L.Naming.tables rest;
}
