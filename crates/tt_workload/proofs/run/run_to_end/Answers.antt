use Rattle.std.proofs.Common.{◌∙◌}
use Rattle.tt_workload.proofs.RunLemmas.{ends_in_writing}
use Rattle.tt_workload.proofs.run.run_to_end.Goals as goal

pub returns-clause-err : goal.returns-clause-err
returns-clause-err g c =
    ends_in_writing c.write_report.result _ _ _ _ _ c.in_ok-document.document c.write_report.ensures.err c.write_report.ensures.prefix
    (c.deref.ensures.value ∙ c.in_ok-report.ensures.report) c.in_ok-document.ensures.ok
