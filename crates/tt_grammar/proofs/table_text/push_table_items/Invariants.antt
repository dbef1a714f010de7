-- the text so far and that of the tables that are left are the whole
use Rattle.std.proofs.Common.{◌≡◌, ◌==◌, ◌++◌, map, drop}
use Rattle.tt_grammar.specs.JsonText.{items_text, items_at}
use Rattle.tt_grammar.specs.WriteText.{table_text}
use Rattle.tt_grammar.proofs.table_text.push_table_items.Given as goal

abbrev pub invariant-loop-table : goal.invariant-loop-table
invariant-loop-table l =
    l.out.items ++ items_at (l.table == 0) (map table_text (drop l.table l.catalog)) ≡ l.fn.out.items ++ items_text (map table_text l.catalog)
