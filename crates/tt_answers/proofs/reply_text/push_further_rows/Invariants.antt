-- the text so far and that of the items that are left are the whole
use Rattle.std.proofs.Common.{◌≡◌, ◌++◌, map, drop}
use Rattle.std.specs.List.{flat_map}
use Rattle.tt_grammar.specs.Printing.{row_text}
use Rattle.tt_grammar.specs.JsonText.{further_item}
use Rattle.tt_answers.proofs.reply_text.push_further_rows.Given as goal

abbrev pub invariant-loop-row : goal.invariant-loop-row
invariant-loop-row l = l.out.items ++ flat_map further_item (map row_text (drop l.row-index l.rows)) ≡ l.fn.out.items ++ flat_map further_item (map row_text l.rows)
