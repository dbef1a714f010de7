-- A name is a key of the map exactly if it is a table's.
use Rattle.std.proofs.Common.{ap, ◌∙◌}
use Rattle.std.specs.List.{list_any}
use Rattle.std.specs.Str.{bytes_eq}
use Rattle.tt_values.proofs.CatalogLemmas.{is_some-lookup}
use Rattle.tt_values.proofs.catalog.Catalog.has_table.Goals as goal

pub returns : goal.returns
returns c = c.contains_key.ensures ∙ is_some-lookup _ c.args.name.now ∙ ap (list_any (λ t. bytes_eq c.args.name.now t.0)) c.self.view_is
