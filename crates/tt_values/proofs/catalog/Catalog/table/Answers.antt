use Rattle.tt_values.proofs.CatalogLemmas.{sound_at}
use Rattle.tt_values.proofs.catalog.Catalog.table.Goals as goal

pub returns-clause-sound : goal.returns-clause-sound
returns-clause-sound c = sound_at c.self.inside.tables.entries c.from.result _ c.in_ok-def.def.now c.self.invariant c.in_ok-def.ensures.entry
