-- The column's partition is put after those of the columns before it.
use Rattle.std.proofs.Common.{◌≡◌, suc, ◌++◌, drop, Some, slice_get, length, refl, sym, ap, ◌∙◌, add-one, append_assoc}
use Rattle.std.proofs.lemmas.Option.{slice_get_read}
use Rattle.tt_parts.specs.Partitions.{part_at, parts_from}
use Rattle.tt_parts.proofs.PartitionsLemmas.{parts_from-drop}
use Rattle.tt_parts.proofs.parts.parts_of.Goals as goal

pub loop-i-preserved : goal.loop-i-preserved
loop-i-preserved c =
    let columns = c.as_slice-columns.result.now in
    let values = c.args.row.now.values in
    let table = c.args.table in
    let i = c.loop-i.i in
    let column = c.index-columns-i.result in
    let parts = c.loop-i.parts in
    let rest = parts_from table (suc i) (drop (suc i) columns) (drop (suc i) values) in
    let here : slice_get columns i ≡ Some column = slice_get_read columns (length columns) i column refl c.loop-i-test.true c.index-columns-i.is in
    let pushed : c.push_part.new.parts ≡ parts ++ part_at table i column (slice_get values i) = c.in_ok-push_part.ensures ∙ ap (λ v. parts ++ part_at table i column v) c.get.ensures in
    rw add-one (ap (λ ps. ps ++ rest) pushed ∙ append_assoc parts _ rest ∙ ap (λ ps. parts ++ ps) (sym (parts_from-drop table i i columns values column here)) ∙ c.loop-i.invariant)
