use Rattle.tt_values.proofs.LawProofs.{catalogs_grow}
use Rattle.tt_values.proofs.laws.catalogs_grow.Goals as goal

pub returns : goal.returns
returns c = catalogs_grow
