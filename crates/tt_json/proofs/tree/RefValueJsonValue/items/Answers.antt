-- The items that the array is seen as are those of its slice.
use Rattle.std.proofs.Common.{map, sym, ap, ◌∙◌, Some, option_map}
use Rattle.serde_json.specs.View.{view}
use Rattle.tt_json.specs.Value.{list_of}
use Rattle.tt_json.proofs.TreeLemmas.{list_of-items_of}
use Rattle.tt_json.proofs.tree.RefValueJsonValue.items.Goals as goal

pub returns-in-Some : goal.returns-in-Some
returns-in-Some c =
    ap Some (ap (map view) c.as_slice.ensures.value ∙ sym (list_of-items_of _)) ∙ ap (option_map list_of) c.in-Some.ensures
