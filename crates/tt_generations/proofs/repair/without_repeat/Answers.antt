-- Where the halves are the same, the list is the first of them twice.
use Rattle.std.proofs.Common.{◌≡◌, ◌++◌, true, sym, ◌∙◌, take-append-drop}
use Rattle.tt_generations.proofs.repair.without_repeat.Goals as goal

pub returns-then-are_same : goal.returns-then-are_same
returns-then-are_same c =
    let parts = c.split_at.ensures in
    let rows = c.args.rows.now in
    let same : c.split_at.result.0.now ≡ c.split_at.result.1.now = c.are_same.ensures c.if-are_same.true in
    (true, sym (take-append-drop _ rows) ∙ (λ i. sym parts.front i ++ (sym parts.back ∙ sym same) i))
