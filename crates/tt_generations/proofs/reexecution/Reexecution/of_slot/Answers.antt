-- The rows that the slot touched are rolled back, and then its writes are carried out.
use Rattle.std.proofs.Common.{◌≡◌, ◌++◌, subst, sym, ap, ◌∙◌, inl, inr}
use Rattle.tt_values.specs.declared.action.Action.{Action}
use Rattle.tt_generations.specs.Reexecution.{ReexecutionOnRows, reexecution_on, ReexecutesAction, Reexecutes}
use Rattle.tt_generations.proofs.ActionStepsLemmas.{gives_nothing_up, may_give_up-whole}
use Rattle.tt_generations.proofs.ReexecutionLemmas.{ReexecutesAction-few, Reexecutes-start}
use Rattle.tt_generations.proofs.reexecution.Reexecution.of_slot.Goals as goal
use Rattle.tt_generations.proofs.reexecution.Reexecution.of_slot.Goals.{then-may_give_up+in_ok-carry_out_whole, else-may_give_up+in_ok-carry_out_all}

pub returns : goal.returns
returns c =
    let touched = c.args.touched.now in
    let action : Action = record { writes = c.args.writes.now; whole = c.args.whole } in
    let new = c.in_ok-run.ensures in
    let split = c.in_ok-split_rows.ensures in
    let begun = reexecution_on c.split_rows.new.rows c.split_rows.new.self in
    let reexecuted : begun.reexecuted ≡ touched = split.reexecuted ∙ ap (λ rs. rs ++ c.args.touched.now) new.reexecuted in
    let replies = split.replies ∙ new.replies in
    let none_touched = split.rows_touched ∙ new.rows_touched in
    elim c.if-may_give_up.branch [
      | then-may_give_up+in_ok-carry_out_whole w ↦
          let after = reexecution_on w.carry_out_whole.new.rows w.carry_out_whole.new.self in
          let same = may_give_up-whole action c.may_give_up.result c.may_give_up.ensures w.if-may_give_up.true in
          subst (λ (r : ReexecutionOnRows). Reexecutes c.args.time touched action c.args.rows.now r) (λ i. reexecution_on (sym w.rows-is i) (sym w.run-is i))
          (Reexecutes-start c.args.time touched action c.args.rows.now begun after reexecuted split.rows replies none_touched
          (subst (λ (a : Action). ReexecutesAction c.args.time a begun after) same w.in_ok-carry_out_whole.ensures))
      | else-may_give_up+in_ok-carry_out_all w ↦
          let after = reexecution_on w.carry_out_all.new.rows w.carry_out_all.new.self in
          let all = w.in_ok-carry_out_all.ensures in
          let redone : ReexecutesAction c.args.time action begun after = elim (gives_nothing_up action c.may_give_up.result c.may_give_up.ensures w.if-may_give_up.false) [
            | inl same ↦ subst (λ (a : Action). ReexecutesAction c.args.time a begun after) same all
            | inr few ↦ ReexecutesAction-few c.args.time action begun after few all
          ] in
          subst (λ (r : ReexecutionOnRows). Reexecutes c.args.time touched action c.args.rows.now r) (λ i. reexecution_on (sym w.rows-is i) (sym w.run-is i))
          (Reexecutes-start c.args.time touched action c.args.rows.now begun after reexecuted split.rows replies none_touched redone)
    ]
