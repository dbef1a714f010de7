-- The items are those of the array that serde_json reads.
use Rattle.std.proofs.Common.{Some, None, sym, ◌∙◌}
use Rattle.tt_json.proofs.ItemsLemmas.{items-array, length-items_in, no_items_in}
use Rattle.tt_json.proofs.tape.TapeValue.item_count.Goals as goal

pub count-requires : goal.count-requires
count-requires c = (items-array _ (Some c.in-Some.items) c.self.invariant c.in-Some.ensures).0

pub returns-in-Some : goal.returns-in-Some
returns-in-Some c =
    let found = items-array _ (Some c.in-Some.items) c.self.invariant c.in-Some.ensures in
    c.count.ensures ∙ sym (length-items_in _ _ _ c.self.view_is found.1)

pub returns-in-None : goal.returns-in-None
returns-in-None c = no_items_in _ _ c.self.view_is (items-array _ None c.self.invariant c.in-None.ensures)
