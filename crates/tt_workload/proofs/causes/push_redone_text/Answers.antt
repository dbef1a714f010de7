-- The pieces of the line, one after another.
use Rattle.std.proofs.Common.{codes}
use Rattle.std.specs.Fmt.{decimal}
use Rattle.tt_workload.proofs.ReportLemmas.{labelled-once}
use Rattle.tt_workload.proofs.causes.push_redone_text.Goals as goal

pub returns : goal.returns
returns c =
    labelled-once c.args.out.now.items c.push_labelled.new.out.items c.push_cause.new.out.items (codes "redone slot ") (decimal c.args.slot) _
    c.in_ok-push_labelled.ensures c.in_ok-push_cause.ensures
