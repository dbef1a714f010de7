-- The pieces of the line, one after another.
use Rattle.std.proofs.Common.{◌++◌, ap, ◌∙◌}
use Rattle.tt_workload.specs.Printing.{replies_text}
use Rattle.tt_workload.proofs.ReportLemmas.{change-pieces}
use Rattle.tt_workload.proofs.record_text.push_change_text.Goals as goal

pub returns : goal.returns
returns c =
    change-pieces c.args.label.now c.args.change.now c.args.out.now.items c.push_labelled.new.out.items c.push.new.self.items c.push_replies.new.out.items c.extend_from_slice.new.self.items
    c.push_after.new.out.items c.push-2.new.self.items
    c.in_ok-push_labelled.ensures c.in_ok-push.ensures.items (c.in_ok-push_replies.ensures ∙ ap (λ rs. c.push.new.self.items ++ replies_text rs) c.as_slice.ensures) c.in_ok-extend_from_slice.ensures.items c.in_ok-push_after.ensures c.in_ok-push-2.ensures.items
