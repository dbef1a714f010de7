use Rattle.std.proofs.Common.{[], ◌∙◌}
use Rattle.tt_parts.specs.Sets.{value_since}
use Rattle.tt_parts.proofs.EntriesLemmas.{test_found, test_missing}
use Rattle.tt_parts.proofs.dirty_partitions.since_in_column.Goals as goal

pub returns-in-Some : goal.returns-in-Some
returns-in-Some c = c.value_since.ensures ∙ test_found (λ values. value_since values c.args.value.now) [] c.value_at.result c.in-Some.values _ c.in-Some.is c.value_at.ensures

pub returns-in-None : goal.returns-in-None
returns-in-None c = test_missing (λ values. value_since values c.args.value.now) [] c.value_at.result _ c.in-None.is c.value_at.ensures
