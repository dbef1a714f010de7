use Rattle.tt_grammar.proofs.ItemLemmas.{further-next}
use Rattle.tt_answers.specs.CauseText.{cause_text}
use Rattle.tt_answers.proofs.cause_text.push_further_entries.Goals as goal

pub loop-entry-preserved : goal.loop-entry-preserved
loop-entry-preserved c =
    further-next (cause_text c.args.catalog.now c.args.numbering) c.args.redone.now c.loop-entry.entry-index c.entry-item.result c.loop-entry.out.items c.push.new.self.items c.push_cause_entry.new.out.items _
    c.loop-entry-test.true c.entry-item.is c.loop-entry.invariant c.in_ok-push.ensures.items c.in_ok-push_cause_entry.ensures
