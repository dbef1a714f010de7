-- the text so far and that of the items that are left are the whole, and the items so far are storable
use Rattle.std.proofs.Common.{◌≡◌, ◌++◌, ℕ, ◌<◌, map, drop, slice_index_or}
use Rattle.std.specs.List.{flat_map}
use Rattle.tt_values.specs.declared.statement.Write.{Write}
use Rattle.tt_grammar.specs.WriteText.{write_text}
use Rattle.tt_grammar.specs.JsonText.{further_item}
use Rattle.tt_grammar.specs.ReadBack.{IsStorableWrite}
use Rattle.tt_grammar.proofs.write_text.push_further_writes.Given as goal

abbrev pub invariant-loop-write : goal.invariant-loop-write
invariant-loop-write l = record {
  text : l.out.items ++ flat_map further_item (map (write_text l.catalog) (drop l.write-index l.writes)) ≡ l.fn.out.items ++ flat_map further_item (map (write_text l.catalog) l.writes);
  storable : (k : ℕ) (d : Write) → k < l.write-index → IsStorableWrite (slice_index_or l.writes k d);
}
