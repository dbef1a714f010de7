-- The one row is written on the next side of the shared table, which is this one.
use Rattle.std.proofs.Common.{ℤ, List, [], ◌∷◌, Option, w64, ap, ◌∙◌}
use Rattle.std.proofs.lemmas.Int.{to_z-of_z}
use Rattle.tt_values.specs.declared.row.Row.{Row}
use Rattle.tt_versions.specs.Sides.{LineagesByKey, next_of, written_from, all_written_from}
use Rattle.tt_versions.proofs.RowsByWritesLemmas.{adds_row_write}
use Rattle.tt_versions.proofs.table.Table.next_written.Goals as goal

pub returns-clause-next_adds : goal.returns-clause-next_adds
returns-clause-next_adds c =
    let time = c.args.time in
    let table = c.in_ok-table.table in
    let one = c.in_ok-rows.ensures ∙ ap (λ (k : ℤ). (k, c.args.row) ∷ []) (to_z-of_z w64 c.args.key c.ranges.key) in
    let is = c.in_ok-write_all_next.ensures.next
    ∙ ap (λ (es : List (ℤ × Option Row)). all_written_from es time (next_of table)) one
    ∙ ap (λ (t : LineagesByKey). written_from c.args.key c.args.row time (next_of t)) c.in_ok-table.ensures in
    adds_row_write (next_of c.args.self.now) (next_of c.write_all_next.new.self) c.args.key c.args.row time is
