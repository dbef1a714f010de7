-- The pieces of the line, one after another.
use Rattle.std.proofs.Common.{codes}
use Rattle.tt_grammar.specs.JsonText.{members_text}
use Rattle.tt_grammar.specs.WriteText.{action_members}
use Rattle.tt_answers.proofs.PieceLemmas.{members-object}
use Rattle.tt_answers.proofs.log_text.push_ground_line.Goals as goal

pub returns-clause-text : goal.returns-clause-text
returns-clause-text c =
    members-object c.args.out.now.items c.push.new.self.items c.push_action.new.out.items c.push-2.new.self.items
    (codes "{") (members_text (action_members c.args.catalog.now c.args.action.now)) (codes "}")
    c.in_ok-push.ensures.items c.in_ok-push_action.ensures.text c.in_ok-push-2.ensures.items
