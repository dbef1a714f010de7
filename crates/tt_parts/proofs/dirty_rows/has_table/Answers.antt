use Rattle.std.proofs.Common.{not, ap, ◌∙◌}
use Rattle.std.proofs.Math.Bool.{not-not}
use Rattle.tt_parts.specs.Sets.{is_filled, no_keys}
use Rattle.tt_parts.proofs.EntriesLemmas.{test_found, test_missing}
use Rattle.tt_parts.proofs.dirty_rows.has_table.Goals as goal

pub returns-in-Some : goal.returns-in-Some
returns-in-Some c =
    ap not c.is_empty.ensures ∙ not-not (is_filled c.in-Some.keys.now.numbers)
    ∙ test_found (λ keys. is_filled keys.numbers) no_keys c.value_at.result c.in-Some.keys _ c.in-Some.is c.value_at.ensures

pub returns-in-None : goal.returns-in-None
returns-in-None c = test_missing (λ keys. is_filled keys.numbers) no_keys c.value_at.result _ c.in-None.is c.value_at.ensures
