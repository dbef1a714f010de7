-- The column's partitions are the same, and those of the columns that are left.
use Rattle.std.proofs.Common.{◌≡◌, suc, Option, ◌++◌, drop, Some, slice_get, length, refl, sym, ap, ◌∙◌, add-one}
use Rattle.std.proofs.lemmas.Option.{slice_get_read}
use Rattle.tt_values.specs.declared.value.Value.{Value}
use Rattle.tt_parts.specs.Partitions.{part_at, parts_from, parts_of}
use Rattle.tt_parts.proofs.PartitionsLemmas.{parts_from-drop}
use Rattle.tt_parts.proofs.members.have_same_parts.Goals as goal

pub loop-i-preserved : goal.loop-i-preserved
loop-i-preserved c table =
    let columns = c.args.columns.now in
    let before = c.args.before.now.values in
    let after = c.args.after.now.values in
    let i = c.loop-i.i in
    let column = c.index-columns-i.result in
    let here : slice_get columns i ≡ Some column = slice_get_read columns (length columns) i column refl c.loop-i-test.true c.index-columns-i.is in
    let part : Option Value → _ = λ v. part_at table i column v in
    let same : part (slice_get before i) ≡ part (slice_get after i) = ap part (sym c.get.ensures) ∙ c.is_same_part.ensures c.if-not-is_same_part.false table ∙ ap part c.get-in-loop-i.ensures in
    let step : parts_from table (suc i) (drop (suc i) columns) (drop (suc i) before) ≡ parts_from table (suc i) (drop (suc i) columns) (drop (suc i) after) → parts_of table columns c.args.before.now ≡ parts_of table columns c.args.after.now =
    λ rest. c.loop-i.invariant table (parts_from-drop table i i columns before column here ∙ (λ j. same j ++ rest j) ∙ sym (parts_from-drop table i i columns after column here)) in
    rw add-one step
