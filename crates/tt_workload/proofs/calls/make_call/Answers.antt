-- Where a line can't be pushed, the fault is that memory ran out.
use Rattle.tt_workload.proofs.ReportLemmas.{is_memory}
use Rattle.tt_workload.proofs.calls.make_call.Goals as goal

pub returns-in_err-push_record-clause-err : goal.returns-in_err-push_record-clause-err
returns-in_err-push_record-clause-err c = let gives = c.from_residual-in_err-push_record in is_memory gives.result gives.ensures.1
