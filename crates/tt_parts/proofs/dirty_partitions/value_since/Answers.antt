use Rattle.std.proofs.Common.{[], ◌∙◌}
use Rattle.tt_parts.specs.Sets.{since_among}
use Rattle.tt_parts.proofs.EntriesLemmas.{test_found, test_missing}
use Rattle.tt_parts.proofs.dirty_partitions.value_since.Goals as goal

pub returns-in-Some : goal.returns-in-Some
returns-in-Some c = c.since.ensures ∙ test_found (λ values. since_among values c.args.value.now) [] c.same_digest.result c.in-Some.others _ c.in-Some.is c.same_digest.ensures

pub returns-in-None : goal.returns-in-None
returns-in-None c = test_missing (λ values. since_among values c.args.value.now) [] c.same_digest.result _ c.in-None.is c.same_digest.ensures
