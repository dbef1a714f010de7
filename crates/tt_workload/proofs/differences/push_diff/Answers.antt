-- The lines of the tables that are left follow.
use Rattle.std.proofs.Common.{rules, ◌<◌, ◌++◌, length, ap, ◌∙◌}
use Rattle.std.specs.List.{flat_map}
use Rattle.tt_values.specs.Tables.{Tables}
use Rattle.tt_generations.specs.RowChanges.{change_told}
use Rattle.tt_workload.specs.DiffLines.{diff_line}
use Rattle.tt_workload.proofs.DiffLineLemmas.{tables-next}
use Rattle.tt_workload.proofs.differences.push_diff.Goals as goal

pub loop-table-preserved : goal.loop-table-preserved
loop-table-preserved c =
    let db = c.args.db.now in
    let l = c.loop-table in
    let some : l.table < length db.catalog = search rules in
    let pushed = c.in_ok-push_table_diff.ensures
    ∙ ap (λ (ts : Tables). l.out.items ++ flat_map (λ d. diff_line c.args.json ts l.table (change_told d)) c.as_slice.result.now) c.catalog-catalog.ensures
    ∙ ap (λ cs. l.out.items ++ flat_map (λ d. diff_line c.args.json db.catalog l.table (change_told d)) cs) c.as_slice.ensures in
    tables-next c.args.json db c.args.repair l.table l.out.items c.push_table_diff.new.out.items _ _ some c.in_ok-changes.ensures pushed l.invariant
