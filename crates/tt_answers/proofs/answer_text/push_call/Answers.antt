-- The pieces of the line, one after another.
use Rattle.std.proofs.Common.{◌++◌, map, ap, ◌∙◌, codes}
use Rattle.std.specs.List.{flat_map}
use Rattle.std.specs.Fmt.{decimal}
use Rattle.tt_grammar.specs.JsonText.{further_item, member_text, members_text}
use Rattle.tt_answers.specs.AnswerText.{worker_members, answer_members}
use Rattle.tt_answers.proofs.PieceLemmas.{further-append, call-pieces}
use Rattle.tt_answers.proofs.AnswerLemmas.{further-members}
use Rattle.tt_answers.proofs.answer_text.push_call.Goals as goal

pub returns : goal.returns
returns c =
    let first = worker_members c.args.worker in
    let members = answer_members c.args.catalog.now c.args.numbering c.args.answer.now in
    let told = flat_map further_item (map member_text first) in
    call-pieces c.args.out.now.items c.push_labelled.new.out.items c.push_worker.new.out.items c.push.new.self.items c.push_answer.new.out.items c.extend_from_slice.new.self.items
    (codes "{\"call\":") (decimal c.args.call) told (codes ",") (members_text members) (flat_map further_item (map member_text (first ++ members))) (codes "}") (codes "\n")
    (further-append first members ∙ ap (λ f. told ++ f) (further-members c.args.catalog.now c.args.numbering c.args.answer.now))
    c.in_ok-push_labelled.ensures c.in_ok-push_worker.ensures c.in_ok-push.ensures.items c.in_ok-push_answer.ensures c.in_ok-extend_from_slice.ensures.items
