-- The lines of the calls and of the repair, of the closed generations and of the tables, one after another, are the report.
use Rattle.std.proofs.Common.{◌≡◌, subst}
use Rattle.std.specs.Prelude.{IsErrAnd}
use Rattle.tt_workload.specs.declared.run_fault.RunFault.{RunFault}
use Rattle.tt_workload.proofs.ReportLemmas.{is_memory}
use Rattle.tt_workload.proofs.WholeReportLemmas.{report_is}
use Rattle.tt_workload.proofs.report.report_of.Goals as goal

pub returns-clause-report : goal.returns-clause-report
returns-clause-report c =
    report_is c.args.options.now c.args.document c.in_ok-db.db c.new-out.result.items c.run_document.new.out.items c.push_end_of_run.new.out.items
    c.new-out.ensures.items c.in_ok-db.ensures.database c.in_ok-db.ensures.lines c.in_ok-push_end_of_run.ensures.text

pub returns-in_err-push_end_of_run-clause-err : goal.returns-in_err-push_end_of_run-clause-err
returns-in_err-push_end_of_run-clause-err c =
    let gives = c.from_residual-in_err-push_end_of_run in
    is_memory gives.result (subst (λ (fault : RunFault). IsErrAnd gives.result (λ e. e ≡ fault)) c.in_err-push_end_of_run.ensures.err gives.ensures.1)
