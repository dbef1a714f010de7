-- The effect is found on the next side, the rows that the write matches are split, and the effect is written.
use Rattle.std.proofs.Common.{not, ◌==◌, List, ◌+◌, ◌∷◌, [], ◌++◌, refl, subst, ap, ◌∙◌, arith, length, ℤ, Option}
use Rattle.tt_values.specs.declared.row.Row.{Row}
use Rattle.tt_values.specs.Limits.{max_writes}
use Rattle.tt_versions.specs.declared.side.Side.TheVariants.{Next}
use Rattle.tt_versions.specs.Sides.{next_of, LineagesByKey}
use Rattle.tt_generations.specs.Effect.{IsEffect, rows_of_effect, matched_rows}
use Rattle.tt_generations.specs.Rows.{SplitsRows}
use Rattle.tt_generations.specs.Reexecution.{reexecution_on}
use Rattle.tt_generations.specs.ActionRun.{most_rows}
use Rattle.tt_generations.proofs.FewRowsLemmas.{length-effect}
use Rattle.tt_generations.proofs.ReexecutionLemmas.{effect-is_split, ReexecutesWrites-write, TellsNextEffect-pairs}
use Rattle.tt_generations.proofs.reexecution.Reexecution.carry_out.Goals as goal

pub reply_to-requires : goal.reply_to-requires
reply_to-requires c =
    let pairs = c.in_ok-effect.effect in
    let is = subst (λ (t : LineagesByKey). IsEffect pairs c.args.write.now (next_of t) c.args.time) c.table.ensures c.in_ok-effect.ensures in
    omega (arith, length-effect c.args.rows.now Next c.args.time (most_rows + max_writes) c.table-table.result c.args.write.now pairs c.requires.few c.table-table.ensures is, ap length c.as_slice-2.ensures)

pub write_next-requires : goal.write_next-requires
write_next-requires c =
    let before = c.args.rows.now in
    let between = c.split_matched.new.rows in
    let w = c.args.write.now in
    let pairs = c.in_ok-effect.effect in
    let is = subst (λ (t : LineagesByKey). IsEffect pairs w (next_of t) c.args.time) c.table.ensures c.in_ok-effect.ensures in
    let splits = subst (λ (es : List (ℤ × Option Row)). SplitsRows before between (matched_rows w es) c.args.time) c.as_slice.ensures c.in_ok-split_matched.ensures.rows in
    effect-is_split before between c.args.time (most_rows + max_writes) c.table-table.result w pairs (matched_rows w pairs) c.requires.few c.table-table.ensures is refl splits

pub returns : goal.returns
returns c =
    let before = reexecution_on c.args.rows.now c.args.self.now in
    let between = reexecution_on c.split_matched.new.rows c.split_matched.new.self in
    let w = c.args.write.now in
    let table = c.table-table.result in
    let pairs = c.in_ok-effect.effect in
    let split = c.in_ok-split_matched.ensures in
    let is = subst (λ (t : LineagesByKey). IsEffect pairs w (next_of t) c.args.time) c.table.ensures c.in_ok-effect.ensures in
    let splits = subst (λ (es : List (ℤ × Option Row)). SplitsRows before.rows between.rows (matched_rows w es) c.args.time) c.as_slice.ensures split.rows in
    record {
      effect = TellsNextEffect-pairs c.args.time w before table pairs _ c.table-table.ensures is (ap not (c.is_empty-has_effect.ensures ∙ ap (λ (es : List (ℤ × Option Row)). length es == 0) c.as_slice-4.ensures));
      writes = ReexecutesWrites-write c.args.time w before _ (record {
        table = table;
        between = between.rows;
        pairs = pairs;
        reply = c.reply_to.result;
        on = c.table-table.ensures;
        found = is;
        splits = splits;
        writes = c.in_ok-write_next.ensures;
        answers = λ rows same. c.reply_to.ensures rows (c.as_slice-2.ensures ∙ same);
        replies = c.in_ok-push.ensures ∙ ap (λ rs. rs ++ c.reply_to.result ∷ []) split.replies;
        touched = c.in_ok-add_rows.ensures ∙ (λ i. split.rows_touched i ++ rows_of_effect table (c.as_slice-3.ensures i));
        reexecuted = split.reexecuted ∙ ap (λ es. before.reexecuted ++ matched_rows w es) c.as_slice.ensures;
      });
    }
