-- Each of the steps has as many writes before it as there are.
use Rattle.std.proofs.Common.{◌-◌, ◌++◌, length, replicate, sym, ap, ◌∙◌, arith}
use Rattle.tt_db.specs.History.{writes_before_others}
use Rattle.tt_db.proofs.HistoryLemmas.{few_others, others-steps}
use Rattle.tt_db.proofs.history.push_steps.Goals as goal

pub overflow_sub-writes : goal.overflow_sub-writes
overflow_sub-writes c =
    let few = few_others c.args.write_counts.now c.args.entries.now c.requires in
    omega (arith, few, c.len.ensures, c.len-2.ensures)

pub returns-clause-counts : goal.returns-clause-counts
returns-clause-counts c =
    let H = c.args.entries.now in
    let counts = c.requires in
    c.in_ok-push_copies.ensures
    ∙ (λ i. counts i ++ replicate c.args.count (c.len.ensures i - (c.len-2.ensures ∙ ap length counts) i))
    ∙ sym (others-steps H c.args.count c.args.worker) ∙ ap (writes_before_others 0) (sym c.in_ok-push_copies-2.ensures)
