-- Of the generation that a repair closed, as of the one under way.
use Rattle.std.proofs.Common.{sym, ap, ◌∙◌}
use Rattle.tt_commands.specs.declared.asked_repair.AskedRepair.{AskedRepair}
use Rattle.tt_commands.specs.AskedRepairs.{next_redone_by}
use Rattle.tt_commands.proofs.RedoneLemmas.{redone-under_way, redone-closing}
use Rattle.tt_commands.proofs.asked_repair.AskedRepair.next_redone.Goals as goal

pub returns-in-UnderWay : goal.returns-in-UnderWay
returns-in-UnderWay c =
    c.next_redone.ensures ∙ redone-under_way c.args.db.now c.args.before
    ∙ ap (λ (r : AskedRepair). next_redone_by c.args.db.now r c.args.before) (sym c.in-UnderWay.is)

pub returns-in-Closing : goal.returns-in-Closing
returns-in-Closing c =
    c.next_redone_in.ensures ∙ redone-closing c.args.db.now c.in-Closing.generation c.args.before c.slots_left.ensures.within
    ∙ ap (λ (r : AskedRepair). next_redone_by c.args.db.now r c.args.before) (sym c.in-Closing.is)
