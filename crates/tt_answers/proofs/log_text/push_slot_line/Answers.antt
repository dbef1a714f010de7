-- The pieces of the line, one after another.
use Rattle.std.proofs.Common.{List, ◌++◌, map, ap, ◌∙◌, codes}
use Rattle.std.specs.List.{flat_map}
use Rattle.std.specs.Fmt.{decimal}
use Rattle.tt_grammar.specs.JsonText.{Member, further_item, member_text, members_text}
use Rattle.tt_grammar.specs.WriteText.{action_members}
use Rattle.tt_answers.specs.AnswerText.{stamp_members}
use Rattle.tt_answers.proofs.PieceLemmas.{further-append, number-parts-object}
use Rattle.tt_answers.proofs.log_text.push_slot_line.Goals as goal

pub returns-clause-text : goal.returns-clause-text
returns-clause-text c =
    let members : List Member = action_members c.args.catalog.now c.args.action.now in
    let stamps : List Member = stamp_members c.args.stamp in
    number-parts-object c.args.out.now.items c.push_labelled.new.out.items c.push.new.self.items c.push_action.new.out.items c.push_stamp.new.out.items c.push-2.new.self.items
    (codes "{\"worker\":") (decimal c.args.worker) (codes ",") (members_text members) (flat_map further_item (map member_text stamps))
    (flat_map further_item (map member_text (members ++ stamps))) (codes "}")
    (further-append members stamps)
    (c.in_ok-push_labelled.ensures ∙ ap (λ n. c.args.out.now.items ++ (codes "{\"worker\":" ++ decimal n)) c.from.ensures)
    c.in_ok-push.ensures.items c.in_ok-push_action.ensures.text c.in_ok-push_stamp.ensures c.in_ok-push-2.ensures.items
