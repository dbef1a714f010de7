-- A page of a table is pushed whole.
use Rattle.std.proofs.Common.{◌++◌, map, None, sym, ap, ◌∙◌}
use Rattle.tt_generations.specs.RowChanges.{change_told, changes_after}
use Rattle.tt_commands.specs.CauseEntries.{first_entries}
use Rattle.tt_commands.specs.DiffEntries.{entry_in}
use Rattle.tt_commands.specs.DiffPages.{entries_after}
use Rattle.tt_commands.proofs.DiffLemmas.{page-entries}
use Rattle.tt_commands.proofs.diff_entries.push_table.Goals as goal

pub returns-clause-entries : goal.returns-clause-entries
returns-clause-entries c =
    let a = c.args in
    let old = a.entries.now.items in
    let page = page-entries a.db.now a.repair a.table a.low c.in-Some.most c.in_ok-page.page c.in_ok-page.ensures in
    c.in_ok-push_changes-2.ensures
    ∙ ap (λ cs. old ++ map (entry_in a.table) (changes_after None (map change_told cs))) c.as_slice-2.ensures
    ∙ ap (λ es. old ++ es) page.0
    ∙ ap (λ most. old ++ first_entries most (entries_after a.db.now a.repair a.table a.low)) (sym c.in-Some.is)
