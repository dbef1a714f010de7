-- One record after another goes to the end, if it is still there.
use Rattle.std.proofs.Common.{◌≡◌, ◌<◌, ◌-◌, [], ◌∷◌, ◌++◌, length, take, append-nil, None, Some, sym, ap, ◌∙◌, arith}
use Rattle.tt_commands.specs.Records.{rows_of_records}
use Rattle.tt_commands.specs.Changes.{moved_record, records_behind}
use Rattle.tt_commands.proofs.RecordLemmas.{forget-next, forget-done, some-left, rows-gone, rows-to_end}
use Rattle.tt_commands.proofs.records.Records.forget_before.Goals.{then-move_record, else-move_record}
use Rattle.tt_commands.proofs.records.Records.forget_before.Goals as goal

pub loop-init : goal.loop-init
loop-init c = record { queue = sym (append-nil c.self.inside.queue.items); rows = c.self.invariant.0; few = c.self.invariant.1; end = omega (arith, c.len-end.ensures) }

pub unreachable-requires : goal.unreachable-requires
unreachable-requires c =
    let l = c.loop in
    let old = c.self.inside.queue.items in
    let some : l.counter < length old = omega (arith, c.loop-test.true, l.invariant.end) in
    let left : 0 < length l.self-inside.queue.items = omega (arith, ap length l.invariant.queue, some-left l.counter old (records_behind c.args.time c.args.ground_slots (take l.counter old)) some) in
    let none = rw c.in_default.is at c.pop_front.ensures.cases in
    omega (arith, left, none.0)

-- a record that goes takes its rows with it
pub overflow_sub-self : goal.overflow_sub-self
overflow_sub-self c =
    let l = c.loop in
    omega (arith, c.rows_of_record-rows.ensures, l.invariant.rows, rows-gone l.self-inside.queue.items c.pop_front.new.self.items c.in-Some.oldest c.in-Some.ensures.items)

pub loop-preserved : goal.loop-preserved
loop-preserved c =
    let l = c.loop in
    let a = c.args in
    let old = c.self.inside.queue.items in
    let queue = l.self-inside.queue.items in
    let after = c.if-move_record.self-inside.queue.items in
    let some : l.counter < length old = omega (arith, c.loop-test.true, l.invariant.end) in
    let rest = c.pop_front.new.self.items in
    let first = c.in-Some.ensures.items in
    elim c.if-move_record.branch [
      | then-move_record w ↦
          let last : after ≡ rest ++ c.move_record.new.kept ∷ [] = (λ i. (w.self-inside-is i).queue.items) ∙ w.push_back_reserved.ensures.items in
          let moved_is : moved_record a.time a.ground_slots c.in-Some.oldest ≡ Some c.move_record.new.kept = sym w.if-move_record.ensures in
          let rows : c.if-move_record.self-inside.rows ≡ l.self-inside.rows = λ i. (w.self-inside-is i).rows in
          record {
            queue = forget-next a.time a.ground_slots l.counter old queue rest after c.in-Some.oldest (Some c.move_record.new.kept) some l.invariant.queue first moved_is last;
            rows = rows ∙ l.invariant.rows ∙ sym (rows-to_end a.time a.ground_slots queue rest after c.in-Some.oldest c.move_record.new.kept first moved_is last);
            few = omega (arith, rows, l.invariant.few);
            end = l.invariant.end;
          }
      | else-move_record w ↦
          let last : after ≡ rest = λ i. (w.self-inside-is i).queue.items in
          let rows : c.if-move_record.self-inside.rows ≡ l.self-inside.rows - c.rows_of_record-rows.result = λ i. (w.self-inside-is i).rows in
          record {
            queue = forget-next a.time a.ground_slots l.counter old queue rest after c.in-Some.oldest None some l.invariant.queue first (sym w.if-move_record.ensures) (last ∙ sym (append-nil rest));
            rows = omega (arith, rows, l.invariant.rows, c.rows_of_record-rows.ensures, rows-gone queue rest c.in-Some.oldest first, ap rows_of_records last);
            few = omega (arith, rows, l.invariant.few);
            end = l.invariant.end;
          }
    ]

pub invariant_of-self : goal.invariant_of-self
invariant_of-self c = (c.loop.invariant.rows, c.loop.invariant.few)

pub returns : goal.returns
returns c =
    let l = c.loop in
    let all : l.counter ≡ length c.self.inside.queue.items = omega (arith, c.loop-test.false, l.auto.counter-end, l.invariant.end) in
    forget-done c.args.time c.args.ground_slots l.counter c.self.inside.queue.items l.self-inside.queue.items all l.invariant.queue
    ∙ ap (records_behind c.args.time c.args.ground_slots) c.self.view_is
