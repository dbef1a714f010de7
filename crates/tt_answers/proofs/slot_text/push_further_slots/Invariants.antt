-- the text so far and that of the items that are left are the whole
use Rattle.std.proofs.Common.{◌≡◌, ◌++◌, map, drop}
use Rattle.std.specs.List.{flat_map}
use Rattle.tt_grammar.specs.JsonText.{further_item}
use Rattle.tt_answers.specs.AnswerText.{slot_text}
use Rattle.tt_answers.proofs.slot_text.push_further_slots.Given as goal

abbrev pub invariant-loop-slot : goal.invariant-loop-slot
invariant-loop-slot l =
    l.out.items ++ flat_map further_item (map (slot_text l.catalog l.numbering) (drop l.slot-index l.slots))
    ≡ l.fn.out.items ++ flat_map further_item (map (slot_text l.catalog l.numbering) l.slots)
