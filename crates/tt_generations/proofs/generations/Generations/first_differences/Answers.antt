-- What differs between the sides of the table are the differences of the repair.
use Rattle.std.proofs.Common.{map, sym, ap, ◌∙◌}
use Rattle.tt_generations.specs.RowChanges.{change_behind}
use Rattle.tt_generations.proofs.DifferencesLemmas.{differences-found}
use Rattle.tt_generations.proofs.generations.Generations.first_differences.Goals as goal

pub returns : goal.returns
returns c =
    let G = c.args.self.now in
    c.in_ok-changes.ensures
    ∙ ap (map change_behind) c.deref.ensures.value
    ∙ differences-found G.catalog G.phase G.slots c.args.table c.table.result.now c.in_ok-found.found.items c.args.after c.args.most c.done.result c.table.ensures.current c.table.ensures.next c.done.ensures.done
    c.done.ensures.within (sym c.is_repairing.ensures ∙ c.if-not-is_repairing.false) c.in_ok-found.ensures.any
