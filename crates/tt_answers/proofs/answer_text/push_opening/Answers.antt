-- The pieces of the line, one after another.
use Rattle.std.proofs.Common.{[], ◌++◌, ap, ◌∙◌, codes}
use Rattle.tt_values.specs.Tables.{Tables}
use Rattle.tt_grammar.specs.JsonText.{members_text}
use Rattle.tt_answers.specs.AnswerText.{answer_members}
use Rattle.tt_answers.proofs.PieceLemmas.{opening-pieces}
use Rattle.tt_answers.proofs.answer_text.push_opening.Goals as goal

pub returns : goal.returns
returns c =
    opening-pieces c.args.out.now.items c.push.new.self.items c.push_answer.new.out.items c.extend_from_slice.new.self.items
    (codes "{") (members_text (answer_members [] c.args.numbering c.args.answer.now)) (codes "}") (codes "\n")
    c.in_ok-push.ensures.items
    (c.in_ok-push_answer.ensures ∙ ap (λ (ts : Tables). c.push.new.self.items ++ members_text (answer_members ts c.args.numbering c.args.answer.now)) c.new-catalog.ensures)
    c.in_ok-extend_from_slice.ensures.items
