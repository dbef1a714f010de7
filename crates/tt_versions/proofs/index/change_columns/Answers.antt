-- One more column has moved the key.
use Rattle.std.proofs.Common.{◌≡◌, ◌<◌, ◌≤◌, ◌++◌, ℕ, ℤ, List, [], length, take, drop, append-nil, arith, Some, slice_get, get_or, w64, sym, ap, subst, ◌∙◌}
use mir.Val.{to_z, of_z}
use Rattle.std.specs.List.{All}
use Rattle.std.proofs.lemmas.Int.{to_z-of_z}
use Rattle.std.proofs.lemmas.List.{take_all, drop_all}
use Rattle.std.proofs.lemmas.Option.{slice_get-get_or}
use Rattle.tt_versions.specs.declared.indexed_column.IndexedColumn.{IndexedColumn}
use Rattle.tt_versions.specs.RowChange.{current_after, other_after}
use Rattle.tt_versions.specs.Index.{FitsChange, MovesInColumns}
use Rattle.tt_versions.proofs.MoveLemmas.{All-at, MovesUpTo-at, MovesUpTo-next, MovesUpTo-all}
use Rattle.tt_versions.proofs.index.change_columns.Goals as goal

pub change_row-requires : goal.change_row-requires
change_row-requires c =
    let items = c.deref_mut-column-items.result.now in
    let columns = c.loop-column.column-items in
    let at = c.loop-column.column-index in
    let key = to_z w64 (of_z w64 c.args.key) in
    let column = get_or columns at c.column-item.result in
    let within : at < length columns = omega (arith, c.loop-column-test.true, c.loop-column.auto.column-items) in
    let there : slice_get columns at ≡ Some column = slice_get-get_or columns at c.column-item.result within in
    let as_it_was = MovesUpTo-at key (current_after c.args.change) (other_after c.args.change) at items columns c.loop-column.invariant in
    let fits = subst (λ (cs : List IndexedColumn). All (FitsChange c.args.change key) cs) (sym c.deref_mut-column-items.ensures.value)
    (subst (λ (k : ℤ). All (FitsChange c.args.change k) c.args.columns.now.items) (sym (to_z-of_z w64 c.args.key c.ranges.key)) c.requires) in
    All-at (FitsChange c.args.change key) items at column (as_it_was ∙ there) fits

pub loop-column-preserved : goal.loop-column-preserved
loop-column-preserved c =
    let columns = c.loop-column.column-items in
    let at = c.loop-column.column-index in
    let column = get_or columns at c.column-item.result in
    let within : at < length columns = omega (arith, c.loop-column-test.true, c.loop-column.auto.column-items) in
    let there : slice_get columns at ≡ Some column = slice_get-get_or columns at c.column-item.result within in
    MovesUpTo-next (to_z w64 (of_z w64 c.args.key)) (current_after c.args.change) (other_after c.args.change) at c.deref_mut-column-items.result.now columns column c.change_row.new.self there c.in_ok-change_row.ensures c.loop-column.invariant

pub returns : goal.returns
returns c =
    let items = c.deref_mut-column-items.result.now in
    let before = c.args.columns.now.items in
    let columns = c.loop-column.column-items in
    let key = to_z w64 (of_z w64 c.args.key) in
    let to = current_after c.args.change in
    let other = other_after c.args.change in
    let same = c.deref_mut-column-items.ensures.value in
    let end : length columns ≤ c.loop-column.column-index = omega (arith, c.loop-column-test.false, c.loop-column.auto.column-items) in
    let moved = subst (λ (k : ℤ). MovesInColumns k to other before columns) (to_z-of_z w64 c.args.key c.ranges.key)
    (subst (λ (cs : List IndexedColumn). MovesInColumns key to other cs columns) same (MovesUpTo-all key to other c.loop-column.column-index items columns end c.loop-column.invariant)) in
    let none : drop (length columns) before ≡ [] = ap (λ (n : ℕ). drop n before) (c.loop-column.auto.column-items ∙ ap length same) ∙ drop_all (length before) before (omega arith) in
    let all : columns ++ drop (length columns) before ≡ columns = ap (λ (cs : List IndexedColumn). columns ++ cs) none ∙ append-nil columns in
    let few : length columns ≤ c.args.columns.now.len = omega (arith, c.loop-column.auto.column-items, c.deref_mut-column-items.ensures.len) in
    let whole = ap (λ (cs : List IndexedColumn). take c.args.columns.now.len cs) all ∙ take_all c.args.columns.now.len columns few in
    subst (λ (cs : List IndexedColumn). MovesInColumns c.args.key to other before cs) (sym whole) moved
