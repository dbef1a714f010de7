use Rattle.std.proofs.Common.{length, sym, ap, subst, ◌∙◌, IsSome, int_cmp}
use Rattle.std.specs.FinMap.Entries.{find}
use Rattle.tt_pages.specs.MapEntries.{entries_without}
use Rattle.tt_pages.specs.MapTree.{entries_of_root}
use Rattle.tt_pages.proofs.MapEntriesLemmas.{without-absent, without-lone, none_copied, some_copied}
use Rattle.tt_pages.proofs.map.root.remove_from_root.Goals as goal

pub returns-then-is_none-clause-ok : goal.returns-then-is_none-clause-ok
returns-then-is_none-clause-ok g c =
    let none = none_copied c.get.result _ c.get.ensures c.if-is_none.ensures in
    sym (without-absent c.args.key.now c.in-Some.tree.value.entries (ap (λ tree. find int_cmp c.args.key.now tree.entries) (sym c.deref.ensures) ∙ none)) ∙ ap (λ root. entries_without c.args.key.now (entries_of_root root)) (sym c.in-Some.is)

pub returns-then-len-eq1-clause-ok : goal.returns-then-len-eq1-clause-ok
returns-then-len-eq1-clause-ok g c =
    let some = some_copied c.get.result _ c.get.ensures c.if-is_none.ensures in
    let lone = ap (λ root. length (entries_of_root root)) (sym c.in-Some.is) ∙ sym c.requires ∙ c.if-len-eq1.true in
    sym (without-lone c.args.key.now c.in-Some.tree.value.entries lone (subst (λ tree. IsSome (find int_cmp c.args.key.now tree.entries)) c.deref.ensures some)) ∙ ap (λ root. entries_without c.args.key.now (entries_of_root root)) (sym c.in-Some.is)
