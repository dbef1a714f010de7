-- The file is made longer.
use Rattle.std.proofs.Common.{sym, subst}
use Rattle.std.proofs.Math.Logic.{∥∥₁_map}
use Rattle.tt_log.specs.Crash.{MayBeLonger, IsLonger}
use Rattle.tt_device_tests.specs.declared.event.Event.TheVariants.{Grown}
use Rattle.tt_device_tests.proofs.EventLemmas.{outcomes-more, elapses_kept}
use Rattle.tt_device_tests.proofs.ChangeLemmas.{not_longer, all_longer, crash_changed, synced_changed, once_changed, other_changed, shown_changed, renames_changed}
use Rattle.tt_device_tests.proofs.device.MemoryDeviceDevice.grow.Goals as goal

pub invariant_of-self-in-Ok-record-clause-seen_left : goal.invariant_of-self-in-Ok-record-clause-seen_left
invariant_of-self-in-Ok-record-clause-seen_left g c =
    let d = c.args.self.now in
    let events = d.events.items in
    let len = c.args.len in
    let new = c.record.new.events.items in
    let more = c.in-Ok-record.ensures.ok in
    let is = outcomes-more events (Grown len) new more in
    let file = d.file.items in
    let file_is = c.in-Ok.ensures.ok (c.requires tt) in
    ∥∥₁_map d.seen_left (λ left. once_changed (MayBeLonger len) (IsLonger len) events new is file c.grow_to.new.bytes.items left (subst (MayBeLonger len file) (sym file_is) (all_longer len file)) file_is)

pub invariant_of-self-in-Ok-record-clause-one_name : goal.invariant_of-self-in-Ok-record-clause-one_name
invariant_of-self-in-Ok-record-clause-one_name g c = λ named left was.
    let d = c.args.self.now in
    let events = d.events.items in
    let len = c.args.len in
    let new = c.record.new.events.items in
    let more = c.in-Ok-record.ensures.ok in
    let is = outcomes-more events (Grown len) new more in
    d.one_name named left (other_changed (MayBeLonger len) (IsLonger len) events new is left was)

pub returns-in-Ok-record-clause-shown : goal.returns-in-Ok-record-clause-shown
returns-in-Ok-record-clause-shown g c = λ told.
    let d = c.args.self.now in
    let events = d.events.items in
    let len = c.args.len in
    let new = c.record.new.events.items in
    let more = c.in-Ok-record.ensures.ok in
    let is = outcomes-more events (Grown len) new more in
    shown_changed (MayBeLonger len) (IsLonger len) events new is

pub returns-in-Ok-record-clause-renames : goal.returns-in-Ok-record-clause-renames
returns-in-Ok-record-clause-renames g c = λ told.
    let d = c.args.self.now in
    let events = d.events.items in
    let len = c.args.len in
    let new = c.record.new.events.items in
    let more = c.in-Ok-record.ensures.ok in
    let is = outcomes-more events (Grown len) new more in
    renames_changed (MayBeLonger len) (IsLonger len) events new is

pub returns-in-Ok-record-clause-crash : goal.returns-in-Ok-record-clause-crash
returns-in-Ok-record-clause-crash g c = λ told.
    let d = c.args.self.now in
    let events = d.events.items in
    let len = c.args.len in
    let new = c.record.new.events.items in
    let more = c.in-Ok-record.ensures.ok in
    let is = outcomes-more events (Grown len) new more in
    crash_changed (MayBeLonger len) (IsLonger len) events new is (λ left was. not_longer len left)

pub returns-in-Ok-record-clause-synced : goal.returns-in-Ok-record-clause-synced
returns-in-Ok-record-clause-synced g c = λ told.
    let d = c.args.self.now in
    let events = d.events.items in
    let len = c.args.len in
    let new = c.record.new.events.items in
    let more = c.in-Ok-record.ensures.ok in
    let is = outcomes-more events (Grown len) new more in
    synced_changed (MayBeLonger len) (IsLonger len) events new is

pub returns-in-Ok-record-clause-time : goal.returns-in-Ok-record-clause-time
returns-in-Ok-record-clause-time g c = λ told.
    let d = c.args.self.now in
    let events = d.events.items in
    let len = c.args.len in
    let new = c.record.new.events.items in
    let more = c.in-Ok-record.ensures.ok in
    let is = outcomes-more events (Grown len) new more in
    elapses_kept events (Grown len) new more (shown_changed (MayBeLonger len) (IsLonger len) events new is)
