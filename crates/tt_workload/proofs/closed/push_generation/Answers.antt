use Rattle.std.proofs.Common.{slice_get, ap, ◌∙◌}
use Rattle.std.specs.Option.{option_map}
use Rattle.tt_values.specs.Tables.{Tables}
use Rattle.tt_db.specs.State.{slots_in}
use Rattle.tt_db.specs.Database.{state_of}
use Rattle.tt_workload.specs.Report.{slots_or_none}
use Rattle.tt_workload.proofs.ClosedLemmas.{closed_table_lines-named}
use Rattle.tt_workload.proofs.closed.push_generation.Goals as goal

pub loop-table-preserved : goal.loop-table-preserved
loop-table-preserved c =
    let db = c.args.db.now in
    let W = slots_or_none (slots_in (state_of db) c.args.generation) in
    closed_table_lines-named c.args.json c.args.generation W db.catalog c.loop-table.table c.in-Some.name.now c.loop-table.out.items _ c.push_closed_table.new.out.items
    (c.in-Some.ensures ∙ ap (λ (ts : Tables). option_map (λ t. t.0) (slice_get ts c.loop-table.table)) c.catalog-catalog.ensures) c.loop-table.invariant c.in_ok-push_closed_table.ensures.text
