-- What the items that are left leave of the state so far is what all leave.
use Rattle.std.proofs.Common.{◌≡◌, ◌+◌, length}
use Rattle.tt_grammar.specs.Arrays.{fold_items}
use Rattle.tt_grammar.proofs.arrays.fold_items.Given as goal

abbrev pub invariant-loop-index : goal.invariant-loop-index
invariant-loop-index g l =
    (fold_items (g.T.Fold.after l.fold) l.index l.state (g.V.JsonValue.left l.items) ≡ fold_items (g.T.Fold.after l.fn.fold) 0 l.fn.start (g.V.JsonValue.left l.fn.items))
    × (l.index + length (g.V.JsonValue.left l.items) ≡ l.index-end)
