-- The text of a run in threads.
use Rattle.std.proofs.Common.{◌≡◌, ℕ, List, IfOk}
use Rattle.std.specs.Prelude.{Result, Ok, Err}
use Rattle.tt_document.specs.declared.document.Document.{Document}
use Rattle.tt_workload.specs.declared.options.Options.{Options}
use Rattle.tt_workload.specs.declared.run_fault.RunFault.{RunFault}
use Rattle.tt_workers.specs.declared.report.Report.{Report}
use Rattle.tt_workers.specs.Report.{IsReportOf, text_of_report}
use Rattle.tt_cli.specs.Running.{IsTextOfRun}

pub text_of_right : {Text : Type 0} (bytes : Text → List ℕ) (options : Options) (document : Document) (report : Report) (result : Result Text RunFault)
    → IsReportOf document report → IfOk result (λ text. bytes text ≡ text_of_report options report) → IfOk result (λ text. IsTextOfRun options document (bytes text))
text_of_right bytes options document report (Ok text) right same = record { report = report; right = right; same = same }
text_of_right bytes options document report (Err fault) right same = tt
