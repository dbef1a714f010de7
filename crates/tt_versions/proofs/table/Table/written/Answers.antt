-- The one row is written on the shared table, which is this one.
use Rattle.std.proofs.Common.{ℤ, Bool, cond, not, List, [], ◌∷◌, Option, w64, ap, ◌∙◌}
use Rattle.std.proofs.lemmas.Int.{to_z-of_z}
use Rattle.tt_values.specs.declared.row.Row.{Row}
use Rattle.tt_versions.specs.Sides.{LineagesByKey, current_of, next_of, is_split, written_from, all_written_from, whole_among}
use Rattle.tt_versions.proofs.RowsByWritesLemmas.{adds_row_write}
use Rattle.tt_versions.proofs.table.Table.written.Goals as goal

pub returns-clause-current_adds : goal.returns-clause-current_adds
returns-clause-current_adds c =
    let time = c.args.time in
    let table = c.in_ok-table.table in
    let one = c.in_ok-rows.ensures ∙ ap (λ (k : ℤ). (k, c.args.row) ∷ []) (to_z-of_z w64 c.args.key c.ranges.key) in
    let is = c.in_ok-write_all.ensures.current
    ∙ ap (λ (es : List (ℤ × Option Row)). all_written_from es time (current_of table)) one
    ∙ ap (λ (t : LineagesByKey). written_from c.args.key c.args.row time (current_of t)) c.in_ok-table.ensures in
    adds_row_write (current_of c.args.self.now) (current_of c.write_all.new.self) c.args.key c.args.row time is

pub returns-clause-next_adds : goal.returns-clause-next_adds
returns-clause-next_adds c whole =
    let time = c.args.time in
    let table = c.in_ok-table.table in
    let all : List (ℤ × Option Row) = (c.args.key, c.args.row) ∷ [] in
    let one = c.in_ok-rows.ensures ∙ ap (λ (k : ℤ). (k, c.args.row) ∷ []) (to_z-of_z w64 c.args.key c.ranges.key) in
    let is = c.in_ok-write_all.ensures.next
    ∙ ap (λ (es : List (ℤ × Option Row)). all_written_from (whole_among (is_split table) es) time (next_of table)) one
    ∙ ap (λ (t : LineagesByKey). all_written_from (whole_among (is_split t) all) time (next_of t)) c.in_ok-table.ensures
    ∙ ap (λ (b : Bool). all_written_from (cond (not b) all []) time (next_of c.args.self.now)) whole in
    adds_row_write (next_of c.args.self.now) (next_of c.write_all.new.self) c.args.key c.args.row time is
