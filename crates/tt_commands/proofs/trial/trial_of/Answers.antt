-- What is told of the database, part by part.
use Rattle.std.proofs.Common.{None, ap, ◌∙◌}
use Rattle.tt_generations.specs.declared.progress.Progress.{Progress}
use Rattle.tt_answers.specs.declared.answer.Answer.TheVariants as answers
use Rattle.tt_commands.specs.declared.asked_repair.AskedRepair.TheVariants.{UnderWay}
use Rattle.tt_commands.specs.declared.change_entries.Moment.TheVariants.{Next}
use Rattle.tt_commands.specs.CauseEntries.{slot_before, cause_entries, first_entries}
use Rattle.tt_commands.specs.Moments.{entries_at}
use Rattle.tt_commands.specs.DiffEntries.{diff_entries}
use Rattle.tt_commands.proofs.DiffLemmas.{all-behind}
use Rattle.tt_commands.proofs.trial.trial_of.Goals as goal

pub returns : goal.returns
returns c =
    let db = c.args.db.now in
    let before = c.slot_before-before.ensures ∙ ap (λ n. slot_before n None) c.numbering.ensures in
    let redone = c.in_ok-redone.ensures ∙ c.in_ok-entries.ensures.entries ∙ ap (cause_entries db UnderWay) before in
    let changed = c.in_ok-changed.ensures ∙ c.in_ok-entries-2.ensures.entries
    ∙ (λ i. first_entries (c.every-every.ensures i).most (entries_at Next db (c.every-every.ensures i) (c.records.ensures i))) in
    let diff = c.in_ok-diff.ensures ∙ c.in_ok-entries-3.ensures.entries ∙ all-behind (diff_entries db UnderWay) in
    let rerun = ap (λ (p : Progress). p.rerun) c.progress_now.ensures in
    λ i. answers.Trial (c.now.ensures i) (rerun i) (redone i) (changed i) (diff i)
