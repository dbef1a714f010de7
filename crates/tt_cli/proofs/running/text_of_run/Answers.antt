-- The text is that of the run's report.
use Rattle.tt_cli.proofs.RunningLemmas.{text_of_right}
use Rattle.tt_cli.proofs.running.text_of_run.Goals as goal

pub returns-clause-text : goal.returns-clause-text
returns-clause-text g c =
    text_of_right (λ text. text.items) c.args.options.now c.args.document.now c.in_ok-report.report c.text_of_report.result c.in_ok-report.ensures.report
    c.text_of_report.ensures.text
