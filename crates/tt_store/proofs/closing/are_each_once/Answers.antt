-- The next number is borne once too.
use Rattle.std.proofs.Common.{sym, ◌∙◌}
use Rattle.tt_store.proofs.ClosingLemmas.{once_up_to_next}
use Rattle.tt_store.proofs.closing.are_each_once.Goals as goal

pub loop-before-preserved : goal.loop-before-preserved
loop-before-preserved g c = once_up_to_next c.args.workers.now c.loop-before.before (sym c.bearers.ensures ∙ c.if-bearers-ne1.false) c.loop-before.invariant
