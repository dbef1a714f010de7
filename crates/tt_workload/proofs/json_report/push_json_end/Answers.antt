-- The pieces of the line, one after another.
use Rattle.std.proofs.Common.{codes}
use Rattle.std.specs.Fmt.{decimal}
use Rattle.tt_workload.proofs.JsonLemmas.{numbers-line}
use Rattle.tt_workload.proofs.json_report.push_json_end.Goals as goal

pub returns : goal.returns
returns c =
    numbers-line c.args.out.now.items c.push_labelled.new.out.items c.push_labelled-2.new.out.items c.extend_from_slice.new.self.items
    (codes "{\"generation\":") (decimal c.args.generation) (codes ",\"time\":") (decimal c.args.time) (codes "}") (codes "\n")
    c.in_ok-push_labelled.ensures c.in_ok-push_labelled-2.ensures c.in_ok-extend_from_slice.ensures.items
