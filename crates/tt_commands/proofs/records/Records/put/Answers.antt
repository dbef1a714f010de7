-- A record that has too many rows alone leaves none; otherwise what is left has few enough.
use Rattle.std.proofs.Common.{◌∙◌, sym, ap, arith}
use Rattle.tt_commands.specs.Records.{rows_of_records}
use Rattle.tt_commands.proofs.RecordLemmas.{few_rows-last, none-last}
use Rattle.tt_commands.proofs.records.Records.put.Goals as goal

pub returns-then-rows-gt-MAX_RECORD_ROWS-clause-ok : goal.returns-then-rows-gt-MAX_RECORD_ROWS-clause-ok
returns-then-rows-gt-MAX_RECORD_ROWS-clause-ok c =
    c.clear.ensures ∙ sym (none-last c.args.most c.args.self.now c.args.latest (omega (arith, c.if-rows-gt-MAX_RECORD_ROWS.true, c.rows_of_record-rows.ensures)))

pub invariant_of-self : goal.invariant_of-self
invariant_of-self c =
    let left = c.keep_last.ensures in
    (left.rows, omega (arith, left.rows, ap rows_of_records left.records, few_rows-last c.args.most c.push_back.new.self.items))
