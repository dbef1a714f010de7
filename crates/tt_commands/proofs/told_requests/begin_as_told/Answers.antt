-- The slots of all edits are there, so the repair begins with edits of slots of the database.
use Rattle.std.proofs.Common.{◌≡◌, map, None, Result, sym, ap, subst, ◌∙◌}
use Rattle.tt_answers.specs.declared.answer.Refusal.{Refusal}
use Rattle.tt_commands.specs.Answers.{Answered, Becomes}
use Rattle.tt_commands.specs.Repairing.{begin}
use Rattle.tt_commands.specs.ToldRequests.{missing_if_idle, unless_missing, begin_as_told}
use Rattle.tt_requests.specs.ToldEdits.{own_edit}
use Rattle.tt_commands.proofs.told_requests.begin_as_told.Goals as goal

pub returns-clause-becomes : goal.returns-clause-becomes
returns-clause-becomes c =
    let s = c.args.session.now in
    let worker = c.args.worker in
    let told = c.args.told.now in
    let edits = map (own_edit s.numbering) told.edits in
    let edits_are : c.in_ok-edits.edits ≡ edits = c.in_ok-edits.ensures ∙ (λ i. map (own_edit (c.numbering.ensures i)) (c.as_slice-edits.ensures i)) in
    let none : missing_if_idle s told.edits ≡ None = sym (c.missing_if_idle.ensures ∙ ap (missing_if_idle s) c.as_slice-edits.ensures) ∙ c.in_default.is in
    let begun : begin s worker c.in_ok-edits.edits ≡ begin_as_told s worker told = ap (begin s worker) edits_are ∙ ap (λ m. unless_missing m (begin s worker edits)) (sym none) in
    subst (λ (outcome : Result Answered Refusal). Becomes c.begin.new.session c.begin.result outcome) begun c.begin.ensures.becomes
