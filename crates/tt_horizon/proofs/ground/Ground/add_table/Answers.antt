-- All rows of the table are added.
use Rattle.std.proofs.Common.{map, ap, subst, ◌∙◌}
use Rattle.std.proofs.lemmas.List.{take_all}
use Rattle.tt_values.specs.declared.statement.Write.TheVariants.{Insert}
use Rattle.tt_db.specs.Database.{current_of_db}
use Rattle.tt_horizon.specs.Laying.{AddsWrites}
use Rattle.tt_horizon.proofs.LayingLemmas.{inserts_of-rows}
use Rattle.tt_horizon.proofs.ground.Ground.add_table.Goals as goal

pub returns : goal.returns
returns c =
    let table = c.args.table in
    let all = take_all c.loop-row.row-index c.as_slice-rows.result.now c.loop-row-test.false ∙ c.as_slice-rows.ensures ∙ c.in_ok-shared.ensures in
    subst (AddsWrites c.args.self.now c.loop-row.self) (ap (map (Insert table)) all ∙ inserts_of-rows table (current_of_db c.args.db.now c.args.time table)) c.loop-row.invariant
