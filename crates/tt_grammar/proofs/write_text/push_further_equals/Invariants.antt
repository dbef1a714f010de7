-- the text so far and that of the items that are left are the whole, and the items so far are storable
use Rattle.std.proofs.Common.{◌≡◌, ◌++◌, ℕ, ◌<◌, map, drop, slice_index_or}
use Rattle.std.specs.List.{flat_map}
use Rattle.tt_values.specs.declared.statement.Equal.{Equal}
use Rattle.tt_grammar.specs.WriteText.{equal_text}
use Rattle.tt_grammar.specs.JsonText.{further_item}
use Rattle.tt_grammar.specs.ReadBack.{IsStorableEqual}
use Rattle.tt_grammar.proofs.write_text.push_further_equals.Given as goal

abbrev pub invariant-loop-equal : goal.invariant-loop-equal
invariant-loop-equal l = record {
  text : l.out.items ++ flat_map further_item (map (equal_text l.catalog l.table) (drop l.equal-index l.equals)) ≡ l.fn.out.items ++ flat_map further_item (map (equal_text l.catalog l.table) l.equals);
  storable : (k : ℕ) (d : Equal) → k < l.equal-index → IsStorableEqual (slice_index_or l.equals k d);
}
