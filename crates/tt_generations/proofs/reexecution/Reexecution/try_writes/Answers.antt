-- One more write is tried: it is the last if it has no effect, and at the end none is left.
use Rattle.std.proofs.Common.{◌≡◌, suc, ◌+◌, List, ◌∷◌, drop, true, false, subst, sym, ◌∙◌, arith, drop-cons}
use Rattle.std.proofs.lemmas.List.{drop_all}
use Rattle.tt_values.specs.declared.statement.Write.{Write}
use Rattle.tt_generations.specs.ActionRun.{most_rows}
use Rattle.tt_generations.specs.Reexecution.{reexecution_on, TriesNextWrites}
use Rattle.tt_generations.proofs.ReexecutionLemmas.{TriesNextWrites-next, TriesNextWrites-stop, TriesNextWrites-none, IsUnderWayWithFew-next, IsUnderWayWithFew-more}
use Rattle.tt_generations.proofs.reexecution.Reexecution.try_writes.Goals as goal

pub returns-then-not-branch : goal.returns-then-not-branch
returns-then-not-branch c =
    let so_far = c.loop-write.write-index in
    let left = drop (so_far + 1) c.args.writes.now in
    let w = c.write-item.result in
    let run = reexecution_on c.loop-write.rows c.loop-write.self in
    let now = reexecution_on c.carry_out.new.rows c.carry_out.new.self in
    let done = c.in_ok-carry_out.ensures in
    let has_one = c.in_ok-carry_out.field-0 in
    let next : suc so_far ≡ so_far + 1 = omega arith in
    let all : drop so_far c.args.writes.now ≡ w ∷ left =
    drop-cons c.args.writes.now so_far w c.loop-write-test.true ∙ (λ i. sym c.write-item.is i ∷ drop (next i) c.args.writes.now) in
    c.loop-write.invariant.done now false
    (subst (λ (ws : List Write). TriesNextWrites c.args.time ws run now false) (sym all)
    (TriesNextWrites-stop c.args.time w left run now has_one done.writes done.effect c.if-not-branch.true))

pub loop-write-preserved : goal.loop-write-preserved
loop-write-preserved c =
    let so_far = c.loop-write.write-index in
    let left = drop (so_far + 1) c.args.writes.now in
    let w = c.write-item.result in
    let run = reexecution_on c.loop-write.rows c.loop-write.self in
    let now = reexecution_on c.carry_out.new.rows c.carry_out.new.self in
    let done = c.in_ok-carry_out.ensures in
    let has_one = c.in_ok-carry_out.field-0 in
    let next : suc so_far ≡ so_far + 1 = omega arith in
    let each : drop so_far c.args.writes.now ≡ w ∷ left =
    drop-cons c.args.writes.now so_far w c.loop-write-test.true ∙ (λ i. sym c.write-item.is i ∷ drop (next i) c.args.writes.now) in
    record {
      done = λ after all rest. c.loop-write.invariant.done after all
          (subst (λ (ws : List Write). TriesNextWrites c.args.time ws run after all) (sym each)
          (TriesNextWrites-next c.args.time w left run now after has_one all done.writes done.effect c.if-not-branch.false rest));
      few = IsUnderWayWithFew-more c.args.time now (most_rows + so_far + 1) (most_rows + (so_far + 1)) (omega arith)
          (IsUnderWayWithFew-next c.args.time run now w (most_rows + so_far) c.loop-write.invariant.few done.writes);
    }

pub returns : goal.returns
returns c =
    let run = reexecution_on c.loop-write.rows c.loop-write.self in
    let nothing = drop_all c.loop-write.write-index c.args.writes.now c.loop-write-test.false in
    c.loop-write.invariant.done run true
    (subst (λ (ws : List Write). TriesNextWrites c.args.time ws run run true) (sym nothing) (TriesNextWrites-none c.args.time run))
