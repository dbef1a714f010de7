use Rattle.std.proofs.Common.{slice_get, ap, ◌∙◌}
use Rattle.std.specs.Option.{option_map}
use Rattle.tt_values.specs.Tables.{Tables}
use Rattle.tt_db.specs.Database.{state_of}
use Rattle.tt_workload.proofs.ReportLemmas.{table_lines-named}
use Rattle.tt_workload.proofs.report.push_tables.Goals as goal

pub loop-table-preserved : goal.loop-table-preserved
loop-table-preserved c =
    table_lines-named c.args.json (state_of c.args.db.now) c.args.db.now.catalog c.loop-table.table c.in-Some.name.now c.loop-table.out.items _ c.push_table.new.out.items (c.in-Some.ensures ∙ ap (λ (ts : Tables). option_map (λ t. t.0) (slice_get ts c.loop-table.table)) c.catalog-catalog.ensures) c.loop-table.invariant c.in_ok-push_table.ensures.text
