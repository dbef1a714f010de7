-- The first of one more than are asked for.
use Rattle.std.proofs.Common.{◌∙◌}
use Rattle.tt_generations.specs.RowChanges.{change_told, differences_in, changes_after}
use Rattle.tt_generations.proofs.DifferencesLemmas.{page_changes}
use Rattle.tt_generations.proofs.generations.Generations.differences_page.Goals as goal

pub returns-clause-changes : goal.returns-clause-changes
returns-clause-changes c =
    let G = c.args.self.now in
    let all = changes_after c.args.after (differences_in G.phase G.slots c.args.table) in
    page_changes change_told c.args.most c.in_ok-changes.changes.items _ all c.in_ok-changes.ensures (c.in_ok-changes-2.ensures ∙ c.truncate.ensures.items)
