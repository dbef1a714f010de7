use Rattle.tt_grammar.proofs.ItemLemmas.{further-next}
use Rattle.tt_answers.specs.AnswerText.{change_text}
use Rattle.tt_answers.proofs.slot_text.push_further_changes.Goals as goal

pub loop-change-preserved : goal.loop-change-preserved
loop-change-preserved c =
    further-next (change_text c.args.catalog.now c.args.numbering) c.args.changes.now c.loop-change.change-index c.change-item.result c.loop-change.out.items c.push.new.self.items c.push_change.new.out.items _
    c.loop-change-test.true c.change-item.is c.loop-change.invariant c.in_ok-push.ensures.items c.in_ok-push_change.ensures
