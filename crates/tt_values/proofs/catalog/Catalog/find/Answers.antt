-- The index of a key in the map is the position of the table.
use Rattle.std.proofs.Common.{sym, ap, ◌∙◌}
use Rattle.tt_values.specs.Tables.{table_position}
use Rattle.tt_values.proofs.CatalogLemmas.{table_position-keys}
use Rattle.tt_values.proofs.catalog.Catalog.find.Goals as goal

pub returns-in_err-position : goal.returns-in_err-position
returns-in_err-position c =
    let same_position = table_position-keys c.self.inside.tables.entries c.args.name.now in
    c.from_residual.ensures ∙ c.in_err-position.ensures.index ∙ sym same_position ∙ ap (λ tables. table_position tables c.args.name.now) c.self.view_is

pub returns : goal.returns
returns c =
    let same_position = table_position-keys c.self.inside.tables.entries c.args.name.now in
    c.in_ok-position.ensures.index ∙ sym same_position ∙ ap (λ tables. table_position tables c.args.name.now) c.self.view_is
