-- The run ends at the first slot that is due, and has one more where the next one isn't.
use Rattle.std.proofs.Common.{◌+◌, ◌∷◌, length, ap, subst, refl, ◌∙◌, arith}
use Rattle.std.specs.List.{All}
use Rattle.std.proofs.lemmas.List.Elements.{All-drop}
use Rattle.tt_generations.specs.declared.slot.KeptSlot.{KeptSlot}
use Rattle.tt_generations.specs.declared.repair.Repair.{Repair}
use Rattle.tt_generations.specs.Repair.{HasKeysIfAny}
use Rattle.tt_generations.proofs.RunLemmas.{front-stop, front-next}
use Rattle.tt_generations.proofs.repair.Repair.pass_over.Goals as goal

pub returns-then-not-pass-clause-count : goal.returns-then-not-pass-clause-count
returns-then-not-pass-clause-count c =
    let l = c.loop-passed in
    front-stop c.args.most l.passed c.args.self.now l.self c.in-Some.kept.now l.slots c.args.slots c.next.new.self l.invariant.count c.in-Some.ensures.steps c.if-not-pass.ensures.undue

pub loop-passed-preserved : goal.loop-passed-preserved
loop-passed-preserved c =
    let l = c.loop-passed in
    let passed = c.if-not-pass.ensures.done refl in
    let steps = c.in-Some.ensures.steps in
    record {
      done = passed ∙ ap (λ (r : Repair). record r { done = r.done + 1 }) l.invariant.done ∙ ap (λ n. record c.args.self.now { done = n }) (omega arith);
      count = front-next c.args.most l.passed c.args.self.now l.self c.pass.new.self c.in-Some.kept.now l.slots c.args.slots c.next.new.self c.loop-passed-test.true l.invariant.count steps c.if-not-pass.ensures.undue passed;
      room = let one = ap (λ (r : Repair). r.done) passed in omega (arith, l.invariant.room, one, ap length steps);
      keyed = All-drop (λ (k : KeptSlot). HasKeysIfAny k.slot.action) 1 (c.in-Some.kept.now ∷ c.next.new.self) (subst (All (λ (k : KeptSlot). HasKeysIfAny k.slot.action)) steps l.invariant.keyed);
    }
