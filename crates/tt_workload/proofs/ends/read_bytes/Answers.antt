use Rattle.std.proofs.Common.{◌≡◌, ◌-◌, ◌<◌, min, length, ap, subst, sym, refl, arith}
use Rattle.std.specs.Io.KnownBytes.{Consumes}
use Rattle.std.proofs.KnownBytes.{Consumes-nil, Consumes-kept}
use Rattle.tt_workload.specs.Ends.{max_bytes_read}
use Rattle.tt_workload.proofs.EndsLemmas.{whole_read, full_read, ConsumesAtMost-all, room_left, read_more}
use Rattle.tt_workload.proofs.ends.read_bytes.Goals as goal

pub loop-buffer-init : goal.loop-buffer-init
loop-buffer-init g c = record {
  short = omega (arith, ap length c.new-bytes.ensures.items);
  consumed = subst (Consumes _ _) (sym c.new-bytes.ensures.items) (Consumes-nil _);
}

pub loop-buffer-preserved : goal.loop-buffer-preserved
loop-buffer-preserved g c =
    let before = c.loop-buffer in
    let read = c.in_ok-count.ensures in
    let more : length before.bytes.items < max_bytes_read = omega (arith, c.len.ensures, c.loop-buffer-test.true) in
    let room : c.min-room.result ≡ min (length before.buffer) (max_bytes_read - length before.bytes.items) = omega (arith, c.len-in-loop-buffer.ensures, c.min-room.ensures) in
    let after = read_more _ _ _ before.bytes.items before.buffer c.read_once.new.buffer _ _ _ max_bytes_read
    (record { more = more; room_is = room; fills = c.read_once.auto.buffer; within = read.bound.0; longer = c.in_ok-extend_from_slice.ensures.items })
    before.invariant.consumed read.consumed in
    record { short = after.0; consumed = after.1 }

pub returns-in_err-count-clause-limit : goal.returns-in_err-count-clause-limit
returns-in_err-count-clause-limit g c =
    ConsumesAtMost-all max_bytes_read _ _ _ c.loop-buffer.invariant.short (Consumes-kept _ _ _ _ c.loop-buffer.invariant.consumed c.in_err-count.ensures.unchanged)

pub returns-in_err-extend_from_slice-clause-limit : goal.returns-in_err-extend_from_slice-clause-limit
returns-in_err-extend_from_slice-clause-limit g c =
    let before = c.loop-buffer in
    let read = c.in_ok-count.ensures in
    let more : length before.bytes.items < max_bytes_read = omega (arith, c.len.ensures, c.loop-buffer-test.true) in
    let room : c.min-room.result ≡ min (length before.buffer) (max_bytes_read - length before.bytes.items) = omega (arith, c.len-in-loop-buffer.ensures, c.min-room.ensures) in
    let after = read_more _ _ _ before.bytes.items before.buffer c.read_once.new.buffer _ _ _ max_bytes_read
    (record { more = more; room_is = room; fills = c.read_once.auto.buffer; within = read.bound.0; longer = refl })
    before.invariant.consumed read.consumed in
    ConsumesAtMost-all max_bytes_read _ _ _ after.0 after.1

pub returns-then-count-eq0-clause-ok : goal.returns-then-count-eq0-clause-ok
returns-then-count-eq0-clause-ok g c =
    let before = c.loop-buffer in
    let read = c.in_ok-count.ensures in
    let more : length before.bytes.items < max_bytes_read = omega (arith, c.len.ensures, c.loop-buffer-test.true) in
    let room : c.min-room.result ≡ min (length before.buffer) (max_bytes_read - length before.bytes.items) = omega (arith, c.len-in-loop-buffer.ensures, c.min-room.ensures) in
    let after = read_more _ _ _ before.bytes.items before.buffer c.read_once.new.buffer _ _ _ max_bytes_read
    (record { more = more; room_is = room; fills = c.read_once.auto.buffer; within = read.bound.0; longer = c.in_ok-extend_from_slice.ensures.items })
    before.invariant.consumed read.consumed in
    let some : 0 < length before.buffer = omega (arith, before.auto.buffer, ap length c.as_mut_slice-buffer.ensures.value, c.in_ok-zeros.ensures.len) in
    whole_read _ _ _ max_bytes_read after.0 after.1 (read.end c.if-count-eq0.true (room_left before.bytes.items before.buffer _ max_bytes_read more some room))

pub returns-then-count-eq0-clause-consumed : goal.returns-then-count-eq0-clause-consumed
returns-then-count-eq0-clause-consumed g c =
    let before = c.loop-buffer in
    let read = c.in_ok-count.ensures in
    let more : length before.bytes.items < max_bytes_read = omega (arith, c.len.ensures, c.loop-buffer-test.true) in
    let room : c.min-room.result ≡ min (length before.buffer) (max_bytes_read - length before.bytes.items) = omega (arith, c.len-in-loop-buffer.ensures, c.min-room.ensures) in
    let after = read_more _ _ _ before.bytes.items before.buffer c.read_once.new.buffer _ _ _ max_bytes_read
    (record { more = more; room_is = room; fills = c.read_once.auto.buffer; within = read.bound.0; longer = c.in_ok-extend_from_slice.ensures.items })
    before.invariant.consumed read.consumed in
    after.1

pub returns-then-count-eq0-clause-limit : goal.returns-then-count-eq0-clause-limit
returns-then-count-eq0-clause-limit g c =
    let before = c.loop-buffer in
    let read = c.in_ok-count.ensures in
    let more : length before.bytes.items < max_bytes_read = omega (arith, c.len.ensures, c.loop-buffer-test.true) in
    let room : c.min-room.result ≡ min (length before.buffer) (max_bytes_read - length before.bytes.items) = omega (arith, c.len-in-loop-buffer.ensures, c.min-room.ensures) in
    let after = read_more _ _ _ before.bytes.items before.buffer c.read_once.new.buffer _ _ _ max_bytes_read
    (record { more = more; room_is = room; fills = c.read_once.auto.buffer; within = read.bound.0; longer = c.in_ok-extend_from_slice.ensures.items })
    before.invariant.consumed read.consumed in
    ConsumesAtMost-all max_bytes_read _ _ _ after.0 after.1

pub returns-clause-ok : goal.returns-clause-ok
returns-clause-ok g c = full_read _ _ _ max_bytes_read (omega (arith, c.len.ensures, c.loop-buffer-test.false)) c.loop-buffer.invariant.consumed

pub returns-clause-consumed : goal.returns-clause-consumed
returns-clause-consumed g c = c.loop-buffer.invariant.consumed

pub returns-clause-limit : goal.returns-clause-limit
returns-clause-limit g c = ConsumesAtMost-all max_bytes_read _ _ _ c.loop-buffer.invariant.short c.loop-buffer.invariant.consumed
