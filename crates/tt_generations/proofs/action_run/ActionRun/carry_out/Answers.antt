-- One write is carried out by its effect, whose pairs are few.
use Rattle.std.proofs.Common.{ℤ, List, Option, not, ◌==◌, ◌+◌, ◌++◌, subst, ap, ◌∙◌, arith, length}
use Rattle.tt_values.specs.declared.row.Row.{Row}
use Rattle.tt_values.specs.Limits.{max_writes}
use Rattle.tt_versions.specs.declared.side.Side.TheVariants.{Current}
use Rattle.tt_versions.specs.Sides.{current_of, LineagesByKey}
use Rattle.tt_generations.specs.Effect.{IsEffect, rows_of_effect}
use Rattle.tt_generations.specs.ActionRun.{run_on, most_rows}
use Rattle.tt_generations.proofs.ActionStepsLemmas.{CarriesOut-write, TellsEffect-pairs}
use Rattle.tt_generations.proofs.FewRowsLemmas.{length-effect, AddsOneRowAtMost-write}
use Rattle.tt_generations.proofs.action_run.ActionRun.carry_out.Goals as goal

pub reply_to-requires : goal.reply_to-requires
reply_to-requires c =
    let pairs = c.in_ok-effect.effect in
    let is = subst (λ (t : LineagesByKey). IsEffect pairs c.args.write.now (current_of t) c.args.time) c.table.ensures c.in_ok-effect.ensures in
    omega (arith, length-effect c.args.rows.now Current c.args.time (most_rows + max_writes) c.table-table.result c.args.write.now pairs c.requires.few c.table-table.ensures is, ap length c.as_slice.ensures)

pub returns : goal.returns
returns c =
    let pairs = c.in_ok-effect.effect in
    let is = subst (λ (t : LineagesByKey). IsEffect pairs c.args.write.now (current_of t) c.args.time) c.table.ensures c.in_ok-effect.ensures in
    let written = c.in_ok-write.ensures in
    record {
      effect = TellsEffect-pairs c.args.time c.table-table.result c.args.write.now c.args.rows.now pairs _ c.table-table.ensures is (ap not (c.is_empty-has_effect.ensures ∙ ap (λ (es : List (ℤ × Option Row)). length es == 0) c.as_slice-3.ensures));
      current = CarriesOut-write c.args.time c.table-table.result c.args.write.now (run_on c.args.rows.now c.args.self.now) _ pairs c.reply_to.result c.table-table.ensures is written.current
          (λ rows same. c.reply_to.ensures rows (c.as_slice.ensures ∙ same)) c.in_ok-push.ensures
          (c.in_ok-add_rows.ensures ∙ ap (λ es. c.args.self.now.rows_touched ++ rows_of_effect c.table-table.result es) c.as_slice-2.ensures);
      few = AddsOneRowAtMost-write c.args.time c.table-table.result c.args.write.now c.args.rows.now _ pairs c.table-table.ensures is written.written;
      split = written.split;
    }
