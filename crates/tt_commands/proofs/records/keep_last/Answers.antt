-- The first record goes, while there are too many, or too many rows.
use Rattle.std.proofs.Common.{◌≡◌, ◌<◌, ◌⊎◌, inl, inr, length, sym, ap, ◌∙◌, arith}
use Rattle.tt_commands.specs.Records.{max_record_rows, last_records, rows_of_records}
use Rattle.tt_commands.proofs.RecordLemmas.{last_records-drop, all-last_records}
use Rattle.tt_commands.proofs.records.keep_last.Goals.{then-len-most, else-len-most+then-rows-gt-MAX_RECORD_ROWS}
use Rattle.tt_commands.proofs.records.keep_last.Goals as goal

pub loop-queue-preserved : goal.loop-queue-preserved
loop-queue-preserved c =
    let l = c.loop-queue in
    let items = l.queue.items in
    let too_many : (c.args.most < length items) ⊎ (max_record_rows < rows_of_records items) = elim c.if-len-most.branch [
      | then-len-most w ↦ inl (omega (arith, w.if-len-most.true, c.len.ensures))
      | else-len-most+then-rows-gt-MAX_RECORD_ROWS w ↦ inr (omega (arith, w.if-rows-gt-MAX_RECORD_ROWS.true, l.invariant.rows))
    ] in
    record {
      records = ap (last_records c.args.most) c.pop_oldest.ensures.records ∙ last_records-drop c.args.most items too_many ∙ l.invariant.records;
      rows = c.pop_oldest.ensures.rows;
    }

pub returns-clause-records : goal.returns-clause-records
returns-clause-records c =
    let l = c.loop-queue in
    sym (all-last_records c.args.most l.queue.items (omega (arith, c.if-len-most.false, c.len.ensures)) (omega (arith, c.if-rows-gt-MAX_RECORD_ROWS.false, l.invariant.rows)))
    ∙ l.invariant.records
