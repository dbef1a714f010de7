-- the text so far and that of the items that are left are the whole
use Rattle.std.proofs.Common.{◌≡◌, ◌++◌, drop}
use Rattle.std.specs.List.{flat_map}
use Rattle.tt_grammar.specs.JsonText.{items_text, items_at}
use Rattle.tt_answers.specs.AnswerText.{reply_items}
use Rattle.tt_answers.proofs.reply_text.push_reply_items.Given as goal

abbrev pub invariant-loop-reply : goal.invariant-loop-reply
invariant-loop-reply l =
    l.out.items ++ items_at l.is_first (flat_map reply_items (drop l.reply-index l.replies)) ≡ l.fn.out.items ++ items_text (flat_map reply_items l.replies)
