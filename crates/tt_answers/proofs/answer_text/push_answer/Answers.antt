-- The two numbers of a trial, and what it would come to.
use Rattle.std.proofs.Common.{◌++◌, Result, Ok, Err, OnOk, map, codes, ap, sym, ◌∙◌}
use Rattle.std.specs.List.{flat_map}
use Rattle.std.specs.Fmt.{decimal}
use Rattle.tt_requests.specs.Numbers.{told_time}
use Rattle.tt_grammar.specs.JsonText.{further_item, member_text, members_text}
use Rattle.tt_answers.specs.declared.answer.Answer.{Answer}
use Rattle.tt_answers.specs.AnswerText.{outcome_members, trial_members, answer_members}
use Rattle.tt_answers.proofs.PieceLemmas.{trial-pieces}
use Rattle.tt_answers.proofs.answer_text.push_answer.Goals as goal

on_ok : {T E A B : Type 0} (r : Result T E) → (A → B) → OnOk r A → OnOk r B
on_ok (Ok x) f h = f h
on_ok (Err e) f h = h

pub returns-in_ok-push_trial_counts-in-Trial : goal.returns-in_ok-push_trial_counts-in-Trial
returns-in_ok-push_trial_counts-in-Trial c =
    let tables = c.args.catalog.now in
    let t = c.in-Trial in
    let rest = flat_map further_item (map member_text (outcome_members tables c.args.numbering c.as_slice-in-Trial.result.now c.as_slice-in-Trial-2.result.now c.as_slice-in-Trial-3.result.now)) in
    on_ok c.push_outcome.result (λ is.
    trial-pieces c.args.out.now.items c.push_trial_counts.new.out.items c.push_outcome.new.out.items
    (codes "\"slots\":") (decimal (told_time c.args.numbering t.slots).number) (codes ",\"rerun\":") (decimal t.rerun) rest
    c.in_ok-push_trial_counts-in-Trial.ensures is
    ∙ (λ i. c.args.out.now.items ++ members_text (trial_members tables c.args.numbering t.slots t.rerun (c.as_slice-in-Trial.ensures i) (c.as_slice-in-Trial-2.ensures i) (c.as_slice-in-Trial-3.ensures i)))
    ∙ ap (λ (a : Answer). c.args.out.now.items ++ members_text (answer_members tables c.args.numbering a)) (sym t.is))
    c.push_outcome.ensures
