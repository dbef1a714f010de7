use Rattle.std.proofs.Common.{codes}
use Rattle.std.specs.Fmt.{decimal}
use Rattle.tt_workload.proofs.ReportLemmas.{labelled-twice}
use Rattle.tt_workload.proofs.report.push_last.Goals as goal

pub returns : goal.returns
returns c =
    labelled-twice c.args.out.now.items c.push_labelled.new.out.items c.push_labelled-2.new.out.items c.push.new.self.items
    (codes "end generation ") (decimal c.args.generation) (codes " time ") (decimal c.args.time) (codes "\n")
    c.in_ok-push_labelled.ensures c.in_ok-push_labelled-2.ensures c.in_ok-push.ensures.items
