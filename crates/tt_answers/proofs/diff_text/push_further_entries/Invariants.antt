-- the text so far and that of the items that are left are the whole
use Rattle.std.proofs.Common.{◌≡◌, ◌++◌, map, drop}
use Rattle.std.specs.List.{flat_map}
use Rattle.tt_grammar.specs.JsonText.{further_item}
use Rattle.tt_answers.specs.DiffText.{diff_text}
use Rattle.tt_answers.proofs.diff_text.push_further_entries.Given as goal

abbrev pub invariant-loop-entry : goal.invariant-loop-entry
invariant-loop-entry l =
    l.out.items ++ flat_map further_item (map (diff_text l.catalog) (drop l.entry-index l.rows))
    ≡ l.fn.out.items ++ flat_map further_item (map (diff_text l.catalog) l.rows)
