-- The call of the first record, the page of its changes, and whether more follow.
use Rattle.std.proofs.Common.{◌≡◌, List, ◌∙◌}
use Rattle.std.specs.Bool.{then_some}
use Rattle.tt_answers.specs.declared.answer.Answer.TheVariants as answers
use Rattle.tt_answers.specs.declared.answer.ChangeEntry.{ChangeEntry}
use Rattle.tt_commands.specs.CauseEntries.{first_entries, more_follow}
use Rattle.tt_commands.specs.ChangeEntries.{first_call}
use Rattle.tt_commands.specs.Moments.{entries_at}
use Rattle.tt_commands.proofs.ChangePageLemmas.{more-told}
use Rattle.tt_commands.proofs.change_entries.changes_answer.Goals as goal

pub returns : goal.returns
returns c =
    let a = c.args in
    let session = a.session.now in
    let whole : List ChangeEntry = entries_at a.moment session.database a.page session.records in
    let found : List ChangeEntry = entries_at a.moment c.db.result.now a.page c.records-records.result.now in
    let same : found ≡ whole = λ i. entries_at a.moment (c.db.ensures.value i) a.page (c.records-records.ensures i) in
    let page = c.in_ok-entries.ensures.entries in
    let follow = c.in_ok-entries.ensures.more in
    let list = c.in_ok-changes.ensures ∙ page ∙ (λ i. first_entries a.page.most (same i)) in
    let more = c.then_some-more.ensures ∙ (λ i. then_some (c.is_some.ensures i) ((follow ∙ (λ j. more_follow a.page.most (same j))) i)) ∙ more-told a.page.most whole in
    let from = c.first_call-from.ensures ∙ (λ i. first_call (c.records-records.ensures i) (c.calls.ensures i)) in
    λ i. answers.Changes (from i) (list i) (more i)
