-- One more table shows the side.
use Rattle.std.proofs.Common.{◌≡◌, ◌<◌, ◌≤◌, length, get_or, drop, arith, sym, ap, subst, ◌∙◌}
use Rattle.std.proofs.lemmas.List.{take_at}
use Rattle.std.proofs.lemmas.Option.{slice_get-get_or, get_or_from_slice_get}
use Rattle.tt_versions.specs.Sides.{LineagesByKey, no_lineages, side_of}
use Rattle.tt_generations.specs.Rows.{TablesByPosition, ShowsSide}
use Rattle.tt_generations.proofs.UnsplitLemmas.{ShowsSideBefore-next, ShowsSideBefore-all}
use Rattle.tt_generations.proofs.rows.unsplit_tables.Goals as goal

pub loop-table-preserved : goal.loop-table-preserved
loop-table-preserved c =
    let items = c.loop-table.table-items in
    let at = c.loop-table.table-index in
    let table = get_or items at c.table-item.result in
    let shown = c.in_ok-unsplit_table.ensures in
    let within : at < length items = omega (arith, c.loop-table-test.true, c.loop-table.auto.table-items) in
    let same = get_or_from_slice_get items at table no_lineages (slice_get-get_or items at c.table-item.result within) in
    ShowsSideBefore-next c.args.side at c.deref_mut-table-items.result.now items c.unsplit_table.new.table within
    (record { rows = λ either. shown.rows either ∙ ap (λ (v : LineagesByKey). side_of v c.args.side) (sym same); whole = shown.whole })
    c.loop-table.invariant

pub returns : goal.returns
returns c =
    let side = c.args.side in
    let before = c.args.tables.now.items in
    let items = c.loop-table.table-items in
    let len : length items ≡ c.args.tables.now.len = omega (arith, c.loop-table.auto.table-items, c.deref_mut-table-items.ensures.len) in
    let all : length items ≤ c.loop-table.table-index = omega (arith, c.loop-table.auto.table-items, c.loop-table-test.false) in
    let shown = ShowsSideBefore-all side c.loop-table.table-index c.deref_mut-table-items.result.now items all c.loop-table.invariant in
    subst (λ (r : TablesByPosition). ShowsSide side before r) (sym (take_at items (drop (length items) before) c.args.tables.now.len len))
    (subst (λ (r : TablesByPosition). ShowsSide side r items) c.deref_mut-table-items.ensures.value shown)
