use Rattle.tt_grammar.proofs.ItemLemmas.{items_at-table}
use Rattle.tt_grammar.proofs.table_text.push_table_items.Goals as goal

pub loop-table-preserved : goal.loop-table-preserved
loop-table-preserved c =
    items_at-table c.args.catalog.now c.loop-table.table c.in-Some.name.now c.in-Some-table.def.now c.loop-table.out.items c.push_table_item.new.out.items _
    c.in-Some.ensures c.in-Some-table.ensures.def c.loop-table.invariant c.in_ok-push_table_item.ensures
