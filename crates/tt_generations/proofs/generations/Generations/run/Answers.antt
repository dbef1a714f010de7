-- The slots that aren't due, and the one behind them.
use Rattle.std.proofs.Common.{◌≡◌, ◌<◌, ◌+◌, suc, true, sym, ap, subst, ◌∙◌, arith}
use Rattle.tt_generations.specs.TwoGenerations.{TwoGenerations, left_of, is_next_due}
use Rattle.tt_generations.specs.Runs.{is_last_due}
use Rattle.tt_generations.proofs.RunLemmas.{left-steps, undue_run-last, next_due-behind, none-after_steps}
use Rattle.tt_generations.proofs.generations.Generations.run.Goals as goal

pub returns-then-passed-most-clause-due : goal.returns-then-passed-most-clause-due
returns-then-passed-most-clause-due c =
    let G = c.args.self.now in
    sym (undue_run-last c.args.most G) ∙ ap (λ n. is_last_due n G) (sym c.pass_over-passed.ensures.count)

pub step_due-requires-clause-left : goal.step_due-requires-clause-left
step_due-requires-clause-left c =
    let G = c.args.self.now in
    let passed = c.pass_over-passed.ensures in
    let left = left-steps c.pass_over-passed.result G (omega (arith, passed.few, c.requires.left)) in
    subst (λ (H : TwoGenerations). 0 < left_of H.phase H.slots) (sym passed.state) (omega (arith, left, passed.few, c.requires.left, c.if-passed-most.false))

pub step_due-requires-clause-due : goal.step_due-requires-clause-due
step_due-requires-clause-due c =
    let G = c.args.self.now in
    let passed = c.pass_over-passed.ensures in
    let left = left-steps c.pass_over-passed.result G (omega (arith, passed.few, c.requires.left)) in
    let some = subst (λ (H : TwoGenerations). 0 < left_of H.phase H.slots) (sym passed.state) (omega (arith, left, passed.few, c.requires.left, c.if-passed-most.false)) in
    next_due-behind c.args.most c.pass_over-passed.result G c.pass_over-passed.new.self passed.count passed.state (omega (arith, passed.few, c.if-passed-most.false)) some

pub returns-in_err-step_due-clause-memory : goal.returns-in_err-step_due-clause-memory
returns-in_err-step_due-clause-memory c =
    none-after_steps c.from_residual.result c.pass_over-passed.result c.args.self.now c.pass_over-passed.new.self c.step_due.new.self c.pass_over-passed.ensures.state c.in_err-step_due.ensures.memory

pub returns-clause-due : goal.returns-clause-due
returns-clause-due c =
    let G = c.args.self.now in
    let n = c.pass_over-passed.result in
    let passed = c.pass_over-passed.ensures in
    let left = left-steps n G (omega (arith, passed.few, c.requires.left)) in
    let some = subst (λ (H : TwoGenerations). 0 < left_of H.phase H.slots) (sym passed.state) (omega (arith, left, passed.few, c.requires.left, c.if-passed-most.false)) in
    let due = next_due-behind c.args.most n G c.pass_over-passed.new.self passed.count passed.state (omega (arith, passed.few, c.if-passed-most.false)) some in
    let next : suc n ≡ n + 1 = omega arith in
    subst (λ k. true ≡ is_last_due k G) next (sym (ap is_next_due (sym passed.state) ∙ due))
