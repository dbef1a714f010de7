-- An entry that isn't a write adds how many writes are before it.
use Rattle.std.proofs.Common.{◌-◌, ◌++◌, [], ◌∷◌, length, sym, ap, ◌∙◌, arith}
use Rattle.tt_db.specs.History.{writes_before_others}
use Rattle.tt_db.proofs.HistoryLemmas.{few_others, others-write, others-other}
use Rattle.tt_db.proofs.history.push_entry.Goals as goal
use Rattle.tt_db.proofs.history.push_entry.Goals.{then-not-is_write+in_ok-push, else-not-is_write}

pub overflow_sub-writes : goal.overflow_sub-writes
overflow_sub-writes c =
    let few = few_others c.args.write_counts.now c.args.entries.now c.requires in
    omega (arith, few, c.len.ensures, c.len-then-not-is_write.ensures)

pub returns-clause-counts : goal.returns-clause-counts
returns-clause-counts c =
    let H = c.args.entries.now in
    let pushed = ap (writes_before_others 0) (sym c.in_ok-push-2.ensures.ok) in
    let counts = c.requires in
    elim c.if-not-is_write.branch [
      | then-not-is_write+in_ok-push w ↦
          w.write_counts-is ∙ w.in_ok-push.ensures.ok
          ∙ (λ i. counts i ++ (w.len.ensures i - (w.len-then-not-is_write.ensures ∙ ap length counts) i) ∷ [])
          ∙ sym (others-other H c.args.entry (sym w.if-not-is_write.ensures)) ∙ pushed
      | else-not-is_write w ↦ w.write_counts-is ∙ counts ∙ sym (others-write H c.args.entry (sym w.if-not-is_write.ensures)) ∙ pushed
    ]
