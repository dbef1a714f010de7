-- Where one of the writes has no effect, the rows are those before.
use Rattle.std.proofs.Common.{sym, ◌∙◌, refl, true≢false}
use Rattle.tt_generations.specs.ActionRun.{run_on}
use Rattle.tt_generations.proofs.ActionStepsLemmas.{CarriesOutAction-whole}
use Rattle.tt_generations.proofs.action_run.ActionRun.of_whole.Goals as goal
use Rattle.tt_generations.proofs.action_run.ActionRun.of_whole.Goals.{then-not-branch, else-not-branch}

pub returns-clause-current : goal.returns-clause-current
returns-clause-current c =
    let new = c.in_ok-run.ensures in
    let before = run_on c.args.rows.now c.in_ok-run.run' in
    let tried = run_on c.try_writes.new.rows c.try_writes.new.self in
    let after = run_on c.if-not-branch.rows c.try_writes.new.self in
    let all = c.in_ok-try_writes.field-0 in
    let told = c.in_ok-try_writes.ensures.tried in
    elim c.if-not-branch.branch [
      | then-not-branch w ↦
          CarriesOutAction-whole c.args.time c.args.writes.now before tried after all new.replies new.rows_touched told refl refl
          (λ e. absurd (true≢false (sym e ∙ w.if-not-branch.true))) (λ e. w.rows-is ∙ c.in_ok-before.ensures)
      | else-not-branch w ↦
          CarriesOutAction-whole c.args.time c.args.writes.now before tried after all new.replies new.rows_touched told refl refl
          (λ e. w.rows-is) (λ e. absurd (true≢false (sym w.if-not-branch.false ∙ e)))
    ]
