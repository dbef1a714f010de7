-- One more write is tried: it is the last if it has no effect, and at the end none is left.
use Rattle.std.proofs.Common.{◌≡◌, suc, ◌+◌, List, ◌∷◌, drop, true, false, subst, sym, ◌∙◌, arith, drop-cons}
use Rattle.std.proofs.lemmas.List.{drop_all}
use Rattle.tt_values.specs.declared.statement.Write.{Write}
use Rattle.tt_versions.specs.declared.side.Side.TheVariants.{Current}
use Rattle.tt_generations.specs.ActionRun.{run_on, TriesWrites, most_rows}
use Rattle.tt_generations.proofs.ActionStepsLemmas.{TriesWrites-next, TriesWrites-stop, TriesWrites-none}
use Rattle.tt_generations.proofs.FewRowsLemmas.{HasFewRows-more}
use Rattle.tt_generations.proofs.SplitRowsLemmas.{KeepsSplitRows-append}
use Rattle.tt_generations.proofs.action_run.ActionRun.try_writes.Goals as goal

pub returns-then-not-branch-clause-tried : goal.returns-then-not-branch-clause-tried
returns-then-not-branch-clause-tried c =
    let so_far = c.loop-write.write-index in
    let left = drop (so_far + 1) c.args.writes.now in
    let w = c.write-item.result in
    let run = run_on c.loop-write.rows c.loop-write.self in
    let now = run_on c.carry_out.new.rows c.carry_out.new.self in
    let done = c.in_ok-carry_out.ensures in
    let has_one = c.in_ok-carry_out.field-0 in
    let next : suc so_far ≡ so_far + 1 = omega arith in
    let all : drop so_far c.args.writes.now ≡ w ∷ left =
    drop-cons c.args.writes.now so_far w c.loop-write-test.true ∙ (λ i. sym c.write-item.is i ∷ drop (next i) c.args.writes.now) in
    c.loop-write.invariant.done now false
    (subst (λ (ws : List Write). TriesWrites c.args.time ws run now false) (sym all)
    (TriesWrites-stop c.args.time w left run now has_one done.current done.effect c.if-not-branch.true))

pub loop-write-preserved : goal.loop-write-preserved
loop-write-preserved c =
    let so_far = c.loop-write.write-index in
    let left = drop (so_far + 1) c.args.writes.now in
    let w = c.write-item.result in
    let run = run_on c.loop-write.rows c.loop-write.self in
    let now = run_on c.carry_out.new.rows c.carry_out.new.self in
    let done = c.in_ok-carry_out.ensures in
    let has_one = c.in_ok-carry_out.field-0 in
    let next : suc so_far ≡ so_far + 1 = omega arith in
    let each : drop so_far c.args.writes.now ≡ w ∷ left =
    drop-cons c.args.writes.now so_far w c.loop-write-test.true ∙ (λ i. sym c.write-item.is i ∷ drop (next i) c.args.writes.now) in
    record {
      done = λ after all rest. c.loop-write.invariant.done after all
          (subst (λ (ws : List Write). TriesWrites c.args.time ws run after all) (sym each)
          (TriesWrites-next c.args.time w left run now after has_one all done.current done.effect c.if-not-branch.false rest));
      few = HasFewRows-more now.rows Current c.args.time (most_rows + so_far + 1) (most_rows + (so_far + 1)) (omega arith)
          (done.few (most_rows + so_far) c.loop-write.invariant.few);
      split = KeepsSplitRows-append c.args.rows.now run.rows now.rows c.loop-write.invariant.split done.split;
    }

pub returns-clause-tried : goal.returns-clause-tried
returns-clause-tried c =
    let nothing = drop_all c.loop-write.write-index c.args.writes.now c.loop-write-test.false in
    let run = run_on c.loop-write.rows c.loop-write.self in
    c.loop-write.invariant.done run true
    (subst (λ (ws : List Write). TriesWrites c.args.time ws run run true) (sym nothing) (TriesWrites-none c.args.time run))
