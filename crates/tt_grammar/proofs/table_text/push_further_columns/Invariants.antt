-- the text so far and that of the items that are left are the whole
use Rattle.std.proofs.Common.{◌≡◌, ◌++◌, map, drop}
use Rattle.std.specs.List.{flat_map}
use Rattle.tt_grammar.specs.WriteText.{column_text}
use Rattle.tt_grammar.specs.JsonText.{further_item}
use Rattle.tt_grammar.proofs.table_text.push_further_columns.Given as goal

abbrev pub invariant-loop-column : goal.invariant-loop-column
invariant-loop-column l = l.out.items ++ flat_map further_item (map column_text (drop l.column-index l.columns)) ≡ l.fn.out.items ++ flat_map further_item (map column_text l.columns)
