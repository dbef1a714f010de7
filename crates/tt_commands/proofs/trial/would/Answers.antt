-- The slots of all edits are there, so the repair is tried with edits of slots of the database.
use Rattle.std.proofs.Common.{◌≡◌, map, None, Result, sym, ap, subst, ◌∙◌}
use Rattle.tt_requests.specs.ToldEdits.{own_edit}
use Rattle.tt_answers.specs.declared.answer.Refusal.{Refusal}
use Rattle.tt_commands.specs.Answers.{Answered, Becomes}
use Rattle.tt_commands.specs.ToldRequests.{missing_if_idle, unless_missing}
use Rattle.tt_commands.specs.Trials.{trial, would}
use Rattle.tt_commands.proofs.trial.would.Goals as goal

pub returns : goal.returns
returns c =
    let s = c.args.session.now in
    let told = c.args.told.now in
    let edits = map (own_edit s.numbering) told.edits in
    let edits_are : c.in_ok-edits.edits ≡ edits = c.in_ok-edits.ensures ∙ (λ i. map (own_edit (c.numbering.ensures i)) (c.as_slice-edits.ensures i)) in
    let none : missing_if_idle s told.edits ≡ None = sym (c.missing_if_idle.ensures ∙ ap (missing_if_idle s) c.as_slice-edits.ensures) ∙ c.in_default.is in
    let tried : trial s c.in_ok-edits.edits ≡ would s told = ap (trial s) edits_are ∙ ap (λ m. unless_missing m (trial s edits)) (sym none) in
    subst (λ (outcome : Result Answered Refusal). Becomes s c.trial.result outcome) tried c.trial.ensures
