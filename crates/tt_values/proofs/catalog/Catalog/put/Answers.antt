-- A new entry of the map is a new table at the end.
use Rattle.std.proofs.Common.{refl, ◌∙◌}
use Rattle.tt_values.proofs.CatalogLemmas.{tables_after, catalog_after}
use Rattle.tt_values.proofs.catalog.Catalog.put.Goals as goal

pub invariant_of-self-2 : goal.invariant_of-self-2
invariant_of-self-2 c =
    let entries = c.in_ok-insert.ensures.entries in
    let bytes = c.in_ok-name.ensures.ok in
    rw entries (catalog_after c.self.inside.tables.entries c.in_ok-name.name c.args.def c.self.invariant (rw (bytes, c.self.view_is) c.requires))

pub returns-clause-ok : goal.returns-clause-ok
returns-clause-ok c =
    let entries = c.in_ok-insert.ensures.entries in
    let bytes = c.in_ok-name.ensures.ok in
    rw entries (tables_after c.self.inside.tables.entries c.in_ok-name.name c.args.def (rw (bytes, c.self.view_is) c.requires) ∙ rw (bytes, c.self.view_is) refl)
