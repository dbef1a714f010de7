use Rattle.tt_workload.specs.Ends.{max_bytes_read}
use Rattle.tt_workload.proofs.EndsLemmas.{consumed_bytes}
use Rattle.tt_workload.proofs.ends.read_document.Goals as goal

pub returns-clause-consumed : goal.returns-clause-consumed
returns-clause-consumed g c = consumed_bytes _ _ _ max_bytes_read c.in_ok-bytes.ensures.consumed c.in_ok-bytes.ensures.ok
