-- the text so far and that of the items that are left are the whole, and the items so far are storable
use Rattle.std.proofs.Common.{◌≡◌, ◌++◌, ℕ, ◌<◌, drop, slice_index_or}
use Rattle.std.specs.List.{flat_map}
use Rattle.tt_values.specs.declared.value.Value.{Value}
use Rattle.tt_grammar.specs.Printing.{further_value}
use Rattle.tt_grammar.specs.ReadBack.{IsStorable}
use Rattle.tt_grammar.proofs.printing.push_further.Given as goal

abbrev pub invariant-loop-value : goal.invariant-loop-value
invariant-loop-value l = record {
  text : l.out.items ++ flat_map further_value (drop l.value-index l.values) ≡ l.fn.out.items ++ flat_map further_value l.values;
  storable : (k : ℕ) (d : Value) → k < l.value-index → IsStorable (slice_index_or l.values k d);
}
