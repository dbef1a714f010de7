-- One more write is carried out, and at the end none is left.
use Rattle.std.proofs.Common.{◌≡◌, suc, ◌+◌, List, ◌∷◌, drop, subst, sym, ◌∙◌, arith, drop-cons}
use Rattle.std.proofs.lemmas.List.{drop_all}
use Rattle.tt_values.specs.declared.statement.Write.{Write}
use Rattle.tt_generations.specs.ActionRun.{most_rows}
use Rattle.tt_generations.specs.Reexecution.{reexecution_on, ReexecutesWrites}
use Rattle.tt_generations.proofs.ReexecutionLemmas.{ReexecutesWrites-next, ReexecutesWrites-none, ReexecutesAction-writes, IsUnderWayWithFew-next, IsUnderWayWithFew-more}
use Rattle.tt_generations.proofs.reexecution.Reexecution.carry_out_all.Goals as goal

pub loop-write-preserved : goal.loop-write-preserved
loop-write-preserved c =
    let so_far = c.loop-write.write-index in
    let left = drop (so_far + 1) c.args.writes.now in
    let w = c.write-item.result in
    let run = reexecution_on c.loop-write.rows c.loop-write.self in
    let now = reexecution_on c.carry_out.new.rows c.carry_out.new.self in
    let done = c.in_ok-carry_out.ensures in
    let next : suc so_far ≡ so_far + 1 = omega arith in
    let all : drop so_far c.args.writes.now ≡ w ∷ left =
    drop-cons c.args.writes.now so_far w c.loop-write-test.true ∙ (λ i. sym c.write-item.is i ∷ drop (next i) c.args.writes.now) in
    record {
      done = λ after rest. c.loop-write.invariant.done after
          (subst (λ (ws : List Write). ReexecutesWrites c.args.time ws run after) (sym all)
          (ReexecutesWrites-next c.args.time w left run now after done.writes rest));
      few = IsUnderWayWithFew-more c.args.time now (most_rows + so_far + 1) (most_rows + (so_far + 1)) (omega arith)
          (IsUnderWayWithFew-next c.args.time run now w (most_rows + so_far) c.loop-write.invariant.few done.writes);
    }

pub returns : goal.returns
returns c =
    let run = reexecution_on c.loop-write.rows c.loop-write.self in
    let nothing = drop_all c.loop-write.write-index c.args.writes.now c.loop-write-test.false in
    ReexecutesAction-writes c.args.time c.args.writes.now (reexecution_on c.args.rows.now c.args.self.now) run
    (c.loop-write.invariant.done run (subst (λ (ws : List Write). ReexecutesWrites c.args.time ws run run) (sym nothing) (ReexecutesWrites-none c.args.time run)))
