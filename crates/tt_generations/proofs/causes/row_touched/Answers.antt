-- One more row may be the least of those that are dirty.
use Rattle.std.proofs.Common.{◌≡◌, true, false, cond, Option, Some, get_or, take, w64, rules, sym, ap, ◌∙◌}
use Rattle.std.proofs.lemmas.Int.{to_z-of_z}
use Rattle.std.specs.List.{find}
use Rattle.tt_values.specs.declared.row_id.RowId.{RowId}
use Rattle.tt_values.specs.Action.{each_row_once}
use Rattle.tt_parts.specs.Dirty.{row_since}
use Rattle.tt_causes.specs.Numbers.{is_by, row_id_since}
use Rattle.tt_generations.specs.SlotCauses.{lesser_row}
use Rattle.tt_generations.proofs.LeastRowLemmas.{least-next}
use Rattle.tt_generations.proofs.causes.row_touched.Goals as goal
use Rattle.tt_generations.proofs.causes.row_touched.Goals.{then-is_by, else-is_by}

pub loop-row-preserved : goal.loop-row-preserved
loop-row-preserved c =
    let test = λ (r : RowId). is_by c.args.since (row_id_since c.args.dirty.now.since r) in
    let row = get_or c.args.rows.now c.loop-row.row-index _ in
    let least : Option RowId = find test (each_row_once (take c.loop-row.row-index c.args.rows.now)) in
    let next = least-next test c.args.rows.now c.loop-row.row-index _ c.loop-row-test.true in
    let passes : c.is_by.result ≡ test row = c.is_by.ensures ∙ ap (is_by c.args.since) (c.row_since.ensures.since ∙ ap (row_since c.args.dirty.now.since row.table) (to_z-of_z w64 row.key (search rules))) in
    elim c.if-is_by.branch [
      | then-is_by w ↦
          let is : test row ≡ true = sym passes ∙ w.if-is_by.true in
          w.least-is ∙ ap Some (w.lesser_row.ensures ∙ ap (lesser_row row) c.loop-row.invariant) ∙ sym (next ∙ ap (λ b. cond b (Some (lesser_row row least)) least) is)
      | else-is_by w ↦
          let is : test row ≡ false = sym passes ∙ w.if-is_by.false in
          w.least-is ∙ c.loop-row.invariant ∙ sym (next ∙ ap (λ b. cond b (Some (lesser_row row least)) least) is)
    ]
