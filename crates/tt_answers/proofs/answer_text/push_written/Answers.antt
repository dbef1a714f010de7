-- The pieces of the members, one after another.
use Rattle.std.proofs.Common.{◌++◌, ap, ◌∙◌, codes}
use Rattle.std.specs.Fmt.{decimal}
use Rattle.tt_requests.specs.declared.told.ToldTime.{ToldTime}
use Rattle.tt_requests.specs.Numbers.{told_time}
use Rattle.tt_answers.specs.AnswerText.{replies_text}
use Rattle.tt_answers.proofs.PieceLemmas.{number-value}
use Rattle.tt_answers.proofs.answer_text.push_written.Goals as goal

pub returns : goal.returns
returns c =
    number-value c.args.out.now.items c.push_told_time.new.out.items c.extend_from_slice.new.self.items c.push_replies.new.out.items
    (codes "\"slot\":") (decimal (told_time c.args.numbering c.args.slot).number) (codes ",\"replies\":") (replies_text c.args.replies.now)
    (c.in_ok-push_told_time.ensures ∙ ap (λ (t : ToldTime). c.args.out.now.items ++ (codes "\"slot\":" ++ decimal t.number)) c.told_time.ensures)
    c.in_ok-extend_from_slice.ensures.items c.in_ok-push_replies.ensures
