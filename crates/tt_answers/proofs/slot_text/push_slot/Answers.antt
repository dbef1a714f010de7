-- The pieces of the object, one after another.
use Rattle.std.proofs.Common.{List, ◌∷◌, ◌++◌, map, ap, ◌∙◌, codes}
use Rattle.std.specs.List.{flat_map}
use Rattle.std.specs.Option.{option_map}
use Rattle.std.specs.Fmt.{decimal}
use Rattle.tt_requests.specs.declared.told.ToldTime.{ToldTime}
use Rattle.tt_requests.specs.Numbers.{told_time}
use Rattle.tt_grammar.specs.JsonText.{Member, further_item, member_text, members_text, text_or_null}
use Rattle.tt_grammar.specs.WriteText.{action_members_or_null}
use Rattle.tt_grammar.proofs.PieceLemmas.{further-action}
use Rattle.tt_answers.specs.AnswerText.{replies_text, stamp_members, asked_members}
use Rattle.tt_answers.proofs.PieceLemmas.{further-append, slot-pieces}
use Rattle.tt_answers.proofs.slot_text.push_slot.Goals as goal

pub returns : goal.returns
returns c =
    let tables = c.args.catalog.now in
    let entry = c.args.entry.now in
    let stamps : List Member = stamp_members entry.stamp in
    let first = flat_map further_item (map member_text stamps) in
    let last : List Member = (codes "replies", text_or_null (option_map replies_text entry.slot.replies)) ∷ asked_members tables entry.asked in
    let others : List Member = action_members_or_null tables entry.slot.action ++ last in
    slot-pieces c.args.out.now.items c.push_told_time.new.out.items c.push_labelled.new.out.items c.push_stamp.new.out.items c.push.new.self.items c.push_action_or_null.new.out.items
    c.extend_from_slice.new.self.items c.push_replies_or_null.new.out.items c.push_asked.new.out.items c.push-2.new.self.items
    (codes "{\"slot\":") (decimal (told_time c.args.numbering entry.number).number) (codes ",\"worker\":") (decimal entry.worker) first
    (codes ",") (members_text (action_members_or_null tables entry.slot.action))
    (codes ",\"replies\":") (text_or_null (option_map replies_text entry.slot.replies))
    (flat_map further_item (map member_text (asked_members tables entry.asked)))
    (flat_map further_item (map member_text (stamps ++ others))) (codes "}")
    (further-append stamps others ∙ ap (λ f. first ++ f) (further-action tables entry.slot.action last))
    (c.in_ok-push_told_time.ensures ∙ ap (λ (t : ToldTime). c.args.out.now.items ++ (codes "{\"slot\":" ++ decimal t.number)) c.told_time.ensures)
    (c.in_ok-push_labelled.ensures ∙ ap (λ n. c.push_told_time.new.out.items ++ (codes ",\"worker\":" ++ decimal n)) c.from.ensures)
    c.in_ok-push_stamp.ensures c.in_ok-push.ensures.items c.in_ok-push_action_or_null.ensures
    c.in_ok-extend_from_slice.ensures.items c.in_ok-push_replies_or_null.ensures c.in_ok-push_asked.ensures c.in_ok-push-2.ensures.items
