use Rattle.tt_answers.proofs.ReplyLemmas.{items_at-reply}
use Rattle.tt_answers.proofs.reply_text.push_reply_items.Goals as goal

pub loop-reply-preserved : goal.loop-reply-preserved
loop-reply-preserved c =
    items_at-reply c.args.replies.now c.loop-reply.reply-index c.reply-item.result c.loop-reply.is_first c.is_still_first-is_first.result c.loop-reply.out.items c.push_reply.new.out.items _
    c.loop-reply-test.true c.reply-item.is c.is_still_first-is_first.ensures c.loop-reply.invariant c.in_ok-push_reply.ensures
