-- One more write is carried out, and at the end none is left.
use Rattle.std.proofs.Common.{◌≡◌, suc, ◌+◌, List, ◌∷◌, drop, subst, sym, ◌∙◌, arith, drop-cons}
use Rattle.std.proofs.lemmas.List.{drop_all}
use Rattle.tt_values.specs.declared.statement.Write.{Write}
use Rattle.tt_values.specs.Limits.{max_writes}
use Rattle.tt_versions.specs.declared.side.Side.TheVariants.{Current}
use Rattle.tt_generations.specs.ActionRun.{run_on, CarriesOut, most_rows}
use Rattle.tt_generations.proofs.ActionStepsLemmas.{CarriesOut-next, CarriesOut-none, CarriesOutAction-start}
use Rattle.tt_generations.proofs.FewRowsLemmas.{HasFewRows-more}
use Rattle.tt_generations.proofs.SplitRowsLemmas.{KeepsSplitRows-none, KeepsSplitRows-append}
use Rattle.tt_generations.proofs.action_run.ActionRun.of_writes.Goals as goal

pub loop-write-init : goal.loop-write-init
loop-write-init c =
    let new = c.in_ok-run.ensures in
    let run = c.in_ok-run.run' in
    record {
      done = λ after all. CarriesOutAction-start c.args.time c.args.writes.now (run_on c.args.rows.now run) after new.replies new.rows_touched all;
      few = HasFewRows-more c.args.rows.now Current c.args.time most_rows (most_rows + 0) (omega arith) c.requires.few;
      split = KeepsSplitRows-none c.args.rows.now;
    }

pub carry_out-requires-clause-few : goal.carry_out-requires-clause-few
carry_out-requires-clause-few c =
    let so_far = c.loop-write.write-index in
    HasFewRows-more c.loop-write.rows Current c.args.time (most_rows + so_far) (most_rows + max_writes) (omega (arith, c.loop-write-test.true, c.requires.short)) c.loop-write.invariant.few

pub loop-write-preserved : goal.loop-write-preserved
loop-write-preserved c =
    let so_far = c.loop-write.write-index in
    let left = drop (so_far + 1) c.args.writes.now in
    let w = c.write-item.result in
    let run = run_on c.loop-write.rows c.loop-write.run in
    let now = run_on c.carry_out.new.rows c.carry_out.new.self in
    let next : suc so_far ≡ so_far + 1 = omega arith in
    let all : drop so_far c.args.writes.now ≡ w ∷ left =
    drop-cons c.args.writes.now so_far w c.loop-write-test.true ∙ (λ i. sym c.write-item.is i ∷ drop (next i) c.args.writes.now) in
    record {
      done = λ after rest. c.loop-write.invariant.done after
          (subst (λ (ws : List Write). CarriesOut c.args.time ws run after) (sym all)
          (CarriesOut-next c.args.time w left run now after c.in_ok-carry_out.ensures.current rest));
      few = HasFewRows-more now.rows Current c.args.time (most_rows + so_far + 1) (most_rows + (so_far + 1)) (omega arith)
          (c.in_ok-carry_out.ensures.few (most_rows + so_far) c.loop-write.invariant.few);
      split = KeepsSplitRows-append c.args.rows.now run.rows now.rows c.loop-write.invariant.split c.in_ok-carry_out.ensures.split;
    }

pub returns-clause-current : goal.returns-clause-current
returns-clause-current c =
    let nothing = drop_all c.loop-write.write-index c.args.writes.now c.loop-write-test.false in
    let run = run_on c.loop-write.rows c.loop-write.run in
    c.loop-write.invariant.done run (subst (λ ws. CarriesOut c.args.time ws run run) (sym nothing) (CarriesOut-none c.args.time run))
