-- What is left has few enough rows.
use Rattle.std.proofs.Common.{ap, arith}
use Rattle.tt_commands.specs.Records.{rows_of_records}
use Rattle.tt_commands.proofs.RecordLemmas.{few_rows-last}
use Rattle.tt_commands.proofs.records.Records.keep_last.Goals as goal

pub invariant_of-self : goal.invariant_of-self
invariant_of-self c =
    let left = c.keep_last.ensures in
    (left.rows, omega (arith, left.rows, ap rows_of_records left.records, few_rows-last c.args.most c.self.inside.queue.items))
