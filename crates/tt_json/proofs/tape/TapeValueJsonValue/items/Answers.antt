-- The items are those of the array that serde_json reads, and are counted.
use Rattle.std.proofs.Common.{Some, None, option_map, sym, ap, ◌∙◌}
use Rattle.serde_json.specs.Find.{as_array}
use Rattle.tt_json.specs.Value.{list_of}
use Rattle.tt_json.specs.Tape.{value_at}
use Rattle.tt_json.proofs.ItemsLemmas.{items-array, length-items_in}
use Rattle.tt_json.proofs.tape.TapeValueJsonValue.items.Goals as goal

pub invariant_of-result : goal.invariant_of-result
invariant_of-result c =
    let found = items-array _ (Some c.in-Some.items) c.self.invariant c.in-Some.ensures in
    (found.0, c.item_count.ensures ∙ length-items_in _ _ _ c.self.view_is found.1)

pub returns-in-Some : goal.returns-in-Some
returns-in-Some c = sym (items-array _ (Some c.in-Some.items) c.self.invariant c.in-Some.ensures).1 ∙ ap (λ ts. option_map list_of (as_array (value_at ts))) c.self.view_is

pub returns-in-None : goal.returns-in-None
returns-in-None c = ap (option_map list_of) (sym (items-array _ None c.self.invariant c.in-None.ensures) ∙ ap (λ ts. as_array (value_at ts)) c.self.view_is)
