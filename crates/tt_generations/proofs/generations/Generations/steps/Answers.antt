-- One run more is done.
use Rattle.std.proofs.Common.{◌≡◌, ◌+◌, ◌-◌, ◌≤◌, sym, ap, subst, ◌∙◌, arith}
use Rattle.tt_generations.specs.TwoGenerations.{TwoGenerations, left_of}
use Rattle.tt_generations.specs.Runs.{after_steps, is_last_due}
use Rattle.tt_generations.proofs.RunLemmas.{after_steps-more, left-steps, last_due-more, none-after_steps}
use Rattle.tt_generations.proofs.generations.Generations.steps.Goals as goal

pub run-requires-clause-left : goal.run-requires-clause-left
run-requires-clause-left c =
    let G = c.args.self.now in
    let so_far = c.loop-left.invariant in
    let left = left-steps (c.args.count - c.loop-left.left) G (omega (arith, c.requires)) in
    subst (λ (H : TwoGenerations). c.loop-left.left ≤ left_of H.phase H.slots) (sym so_far.state) (omega (arith, left, so_far.few, c.requires))

pub returns-in_err-run-clause-memory : goal.returns-in_err-run-clause-memory
returns-in_err-run-clause-memory c =
    none-after_steps c.from_residual.result (c.args.count - c.loop-left.left) c.args.self.now c.loop-left.self c.run.new.self c.loop-left.invariant.state c.in_err-run.ensures.memory

pub loop-left-preserved : goal.loop-left-preserved
loop-left-preserved c =
    let G = c.args.self.now in
    let so_far = c.loop-left.invariant in
    let run = c.in_ok-run.run' in
    let made = c.in_ok-run.ensures in
    let before = c.args.count - c.loop-left.left in
    let all : run.count + before ≡ c.args.count - (c.loop-left.left - run.count) = omega (arith, so_far.few, made.few) in
    record {
      few = omega (arith, so_far.few);
      state = made.state ∙ ap (after_steps run.count) so_far.state ∙ after_steps-more run.count before G ∙ ap (λ n. after_steps n G) all;
      due = made.due ∙ ap (is_last_due run.count) so_far.state ∙ last_due-more run.count before G made.some ∙ ap (λ n. is_last_due n G) all;
    }
