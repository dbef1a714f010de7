-- the text so far and that of the items that are left are the whole, and the items so far are storable
use Rattle.std.proofs.Common.{◌≡◌, ◌++◌, ℕ, ◌<◌, map, drop, slice_index_or}
use Rattle.std.specs.List.{flat_map}
use Rattle.tt_values.specs.declared.statement.Change.{Change}
use Rattle.tt_grammar.specs.WriteText.{column_change_text}
use Rattle.tt_grammar.specs.JsonText.{further_item}
use Rattle.tt_grammar.specs.ReadBack.{IsStorableChange}
use Rattle.tt_grammar.proofs.write_text.push_further_changes.Given as goal

abbrev pub invariant-loop-change : goal.invariant-loop-change
invariant-loop-change l = record {
  text : l.out.items ++ flat_map further_item (map (column_change_text l.catalog l.table) (drop l.change-index l.changes)) ≡ l.fn.out.items ++ flat_map further_item (map (column_change_text l.catalog l.table) l.changes);
  storable : (k : ℕ) (d : Change) → k < l.change-index → IsStorableChange (slice_index_or l.changes k d);
}
