use Rattle.std.proofs.Common.{◌∙◌}
use Rattle.tt_parts.specs.Sets.{no_keys, first_since}
use Rattle.tt_parts.proofs.EntriesLemmas.{test_found, test_missing}
use Rattle.tt_parts.proofs.dirty_rows.table_since.Goals as goal

pub returns-in-Some : goal.returns-in-Some
returns-in-Some c = c.first_since.ensures ∙ test_found first_since no_keys c.value_at.result c.in-Some.keys _ c.in-Some.is c.value_at.ensures

pub returns-in-None : goal.returns-in-None
returns-in-None c = test_missing first_since no_keys c.value_at.result _ c.in-None.is c.value_at.ensures
