use Rattle.std.proofs.Common.{[], ◌∙◌}
use Rattle.tt_parts.specs.Sets.{since_in_column}
use Rattle.tt_parts.proofs.EntriesLemmas.{test_found, test_missing}
use Rattle.tt_parts.proofs.dirty_partitions.partition_since.Goals as goal

pub returns-in-Some : goal.returns-in-Some
returns-in-Some c =
    c.since_in_column.ensures ∙ test_found (λ columns. since_in_column columns c.args.column c.args.value.now) [] c.value_at.result c.in-Some.columns _ c.in-Some.is c.value_at.ensures

pub returns-in-None : goal.returns-in-None
returns-in-None c = test_missing (λ columns. since_in_column columns c.args.column c.args.value.now) [] c.value_at.result _ c.in-None.is c.value_at.ensures
