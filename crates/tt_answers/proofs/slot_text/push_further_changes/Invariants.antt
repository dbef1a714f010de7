-- the text so far and that of the items that are left are the whole
use Rattle.std.proofs.Common.{◌≡◌, ◌++◌, map, drop}
use Rattle.std.specs.List.{flat_map}
use Rattle.tt_grammar.specs.JsonText.{further_item}
use Rattle.tt_answers.specs.AnswerText.{change_text}
use Rattle.tt_answers.proofs.slot_text.push_further_changes.Given as goal

abbrev pub invariant-loop-change : goal.invariant-loop-change
invariant-loop-change l =
    l.out.items ++ flat_map further_item (map (change_text l.catalog l.numbering) (drop l.change-index l.changes))
    ≡ l.fn.out.items ++ flat_map further_item (map (change_text l.catalog l.numbering) l.changes)
