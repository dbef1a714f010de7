-- Bytes of the file are written.
use Rattle.std.proofs.Common.{◌≤◌, ◌+◌, ◌-◌, ◌++◌, ◌≡◌, ◌∙◌, List, ℕ, length, take, drop, ap, sym, subst, arith}
use Rattle.std.proofs.Math.Logic.{∥∥₁_map}
use Rattle.std.specs.Vec.{with_items}
use Rattle.std.proofs.lemmas.List.{with_items_is}
use Rattle.tt_log.specs.Crash.{MayBeWritten, IsWritten}
use Rattle.tt_log.specs.Device.{AllAsLong}
use Rattle.tt_device_tests.specs.declared.event.Event.TheVariants.{Written}
use Rattle.tt_device_tests.specs.Outcomes.{may_leave_of}
use Rattle.tt_device_tests.proofs.EventLemmas.{copied, outcomes-written, elapses_kept}
use Rattle.tt_device_tests.proofs.ChangeLemmas.{length-over, unwritten, all_written, in_place, follows_same, crash_changed, synced_changed, once_changed, other_changed, shown_changed, renames_changed}
use Rattle.tt_device_tests.proofs.device.MemoryDeviceDevice.write_at.Goals as goal

-- a crash may find that nothing was written
may_be_old : (outcomes : List ℕ → Type 0) (file bytes : List ℕ) (at : ℕ) → at + length bytes ≤ length file → AllAsLong file outcomes → (left : List ℕ) → outcomes left → MayBeWritten at bytes left left
may_be_old outcomes file bytes at within long left was = unwritten left bytes at (omega (arith, within, long left was))

pub returns-in_err-call-clause-crash : goal.returns-in_err-call-clause-crash
returns-in_err-call-clause-crash g c = λ told left was.
    let d = c.args.self.now in
    (left, was, may_be_old (may_leave_of d.events.items) d.file.items c.args.bytes.now c.args.at (c.requires.within told) (c.requires.length told) left was)

pub returns-in_err-written-clause-crash : goal.returns-in_err-written-clause-crash
returns-in_err-written-clause-crash g c = λ told left was.
    let d = c.args.self.now in
    (left, was, may_be_old (may_leave_of d.events.items) d.file.items c.args.bytes.now c.args.at (c.requires.within told) (c.requires.length told) left was)

pub returns-in_err-record-clause-crash : goal.returns-in_err-record-clause-crash
returns-in_err-record-clause-crash g c = λ told.
    let d = c.args.self.now in
    follows_same (MayBeWritten c.args.at c.args.bytes.now) d.events.items c.record.new.events.items c.in_err-record.ensures.err
    (may_be_old (may_leave_of d.events.items) d.file.items c.args.bytes.now c.args.at (c.requires.within told) (c.requires.length told))

pub invariant_of-self-2-clause-seen_left : goal.invariant_of-self-2-clause-seen_left
invariant_of-self-2-clause-seen_left g c =
    let d = c.args.self.now in
    let events = d.events.items in
    let at = c.args.at in
    let bytes = c.args.bytes.now in
    let new = c.record.new.events.items in
    let copy = c.in_ok-written.written in
    let same = copied c.copy_of.result copy bytes c.in_ok-written.ensures.ok c.copy_of.ensures in
    let is = outcomes-written events bytes copy same new at c.in_ok-record.ensures.ok in
    let file = d.file.items in
    let slots = c.deref_mut.result.now in
    let put = c.copy_from_slice.new.self in
    let n = (at + length bytes) - at in
    let ws = take at slots ++ (put ++ drop n (drop at slots)) in
    let within = c.requires.within tt in
    let ws_is = in_place file slots bytes put at n c.deref_mut.ensures.value c.copy_from_slice.ensures.after (omega arith) in
    let long : length ws ≡ d.file.len = ap length ws_is ∙ sym (length-over file bytes at within) ∙ sym d.file.ok.0 in
    let after = (with_items d.file ws).items in
    let file_is = with_items_is d.file ws long ∙ ws_is in
    ∥∥₁_map d.seen_left (λ left. once_changed (MayBeWritten at bytes) (IsWritten at bytes) events new is file after left (subst (MayBeWritten at bytes file) (sym file_is) (all_written file bytes at within)) file_is)

pub invariant_of-self-2-clause-one_name : goal.invariant_of-self-2-clause-one_name
invariant_of-self-2-clause-one_name g c = λ named left was.
    let d = c.args.self.now in
    let events = d.events.items in
    let at = c.args.at in
    let bytes = c.args.bytes.now in
    let new = c.record.new.events.items in
    let copy = c.in_ok-written.written in
    let same = copied c.copy_of.result copy bytes c.in_ok-written.ensures.ok c.copy_of.ensures in
    let is = outcomes-written events bytes copy same new at c.in_ok-record.ensures.ok in
    d.one_name named left (other_changed (MayBeWritten at bytes) (IsWritten at bytes) events new is left was)

pub returns-clause-shown : goal.returns-clause-shown
returns-clause-shown g c = λ told.
    let d = c.args.self.now in
    let events = d.events.items in
    let at = c.args.at in
    let bytes = c.args.bytes.now in
    let new = c.record.new.events.items in
    let copy = c.in_ok-written.written in
    let same = copied c.copy_of.result copy bytes c.in_ok-written.ensures.ok c.copy_of.ensures in
    let is = outcomes-written events bytes copy same new at c.in_ok-record.ensures.ok in
    shown_changed (MayBeWritten at bytes) (IsWritten at bytes) events new is

pub returns-clause-renames : goal.returns-clause-renames
returns-clause-renames g c = λ told.
    let d = c.args.self.now in
    let events = d.events.items in
    let at = c.args.at in
    let bytes = c.args.bytes.now in
    let new = c.record.new.events.items in
    let copy = c.in_ok-written.written in
    let same = copied c.copy_of.result copy bytes c.in_ok-written.ensures.ok c.copy_of.ensures in
    let is = outcomes-written events bytes copy same new at c.in_ok-record.ensures.ok in
    renames_changed (MayBeWritten at bytes) (IsWritten at bytes) events new is

pub returns-clause-crash : goal.returns-clause-crash
returns-clause-crash g c = λ told.
    let d = c.args.self.now in
    let events = d.events.items in
    let at = c.args.at in
    let bytes = c.args.bytes.now in
    let new = c.record.new.events.items in
    let copy = c.in_ok-written.written in
    let same = copied c.copy_of.result copy bytes c.in_ok-written.ensures.ok c.copy_of.ensures in
    let is = outcomes-written events bytes copy same new at c.in_ok-record.ensures.ok in
    crash_changed (MayBeWritten at bytes) (IsWritten at bytes) events new is (may_be_old (may_leave_of events) d.file.items bytes at (c.requires.within told) (c.requires.length told))

pub returns-clause-synced : goal.returns-clause-synced
returns-clause-synced g c = λ told.
    let d = c.args.self.now in
    let events = d.events.items in
    let at = c.args.at in
    let bytes = c.args.bytes.now in
    let new = c.record.new.events.items in
    let copy = c.in_ok-written.written in
    let same = copied c.copy_of.result copy bytes c.in_ok-written.ensures.ok c.copy_of.ensures in
    let is = outcomes-written events bytes copy same new at c.in_ok-record.ensures.ok in
    synced_changed (MayBeWritten at bytes) (IsWritten at bytes) events new is

pub returns-clause-time : goal.returns-clause-time
returns-clause-time g c = λ told.
    let d = c.args.self.now in
    let events = d.events.items in
    let at = c.args.at in
    let bytes = c.args.bytes.now in
    let new = c.record.new.events.items in
    let copy = c.in_ok-written.written in
    let same = copied c.copy_of.result copy bytes c.in_ok-written.ensures.ok c.copy_of.ensures in
    let is = outcomes-written events bytes copy same new at c.in_ok-record.ensures.ok in
    elapses_kept events (Written at copy) new c.in_ok-record.ensures.ok (shown_changed (MayBeWritten at bytes) (IsWritten at bytes) events new is)
