-- There are fewer than could be counted, so these are all.
use Rattle.std.proofs.Common.{◌<◌, length, map, arith, ap, ◌∙◌}
use Rattle.tt_generations.specs.RowChanges.{change_told, differences_in}
use Rattle.tt_generations.proofs.DifferencesLemmas.{all_changes}
use Rattle.tt_generations.proofs.generations.Generations.differences.Goals as goal

pub returns : goal.returns
returns c =
    let G = c.args.self.now in
    let v = c.in_ok-changes.changes in
    let few : length v.items < 18446744073709551615 = omega (arith, v.ok.0, v.ok.1, v.small) in
    ap (map change_told) c.in_ok-changes-2.ensures
    ∙ all_changes change_told 18446744073709551615 v.items (differences_in G.phase G.slots c.args.table) c.in_ok-changes.ensures few
