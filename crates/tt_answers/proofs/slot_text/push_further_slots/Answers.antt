use Rattle.tt_grammar.proofs.ItemLemmas.{further-next}
use Rattle.tt_answers.specs.AnswerText.{slot_text}
use Rattle.tt_answers.proofs.slot_text.push_further_slots.Goals as goal

pub loop-slot-preserved : goal.loop-slot-preserved
loop-slot-preserved c =
    further-next (slot_text c.args.catalog.now c.args.numbering) c.args.slots.now c.loop-slot.slot-index c.slot-item.result c.loop-slot.out.items c.push.new.self.items c.push_slot.new.out.items _
    c.loop-slot-test.true c.slot-item.is c.loop-slot.invariant c.in_ok-push.ensures.items c.in_ok-push_slot.ensures
