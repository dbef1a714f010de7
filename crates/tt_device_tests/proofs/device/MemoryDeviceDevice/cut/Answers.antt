-- The file is cut.
use Rattle.std.proofs.Common.{sym, subst}
use Rattle.std.proofs.Math.Logic.{∥∥₁_map}
use Rattle.tt_log.specs.Crash.{MayBeCut, IsCut}
use Rattle.tt_device_tests.specs.declared.event.Event.TheVariants.{Cut}
use Rattle.tt_device_tests.proofs.EventLemmas.{outcomes-more, elapses_kept}
use Rattle.tt_device_tests.proofs.ChangeLemmas.{uncut, all_cut, follows_same, crash_changed, synced_changed, once_changed, other_changed, shown_changed, renames_changed}
use Rattle.tt_device_tests.proofs.device.MemoryDeviceDevice.cut.Goals as goal

pub returns-in_err-call-clause-crash : goal.returns-in_err-call-clause-crash
returns-in_err-call-clause-crash g c = λ told left was. (left, was, uncut c.args.len left)

pub returns-in_err-record-clause-crash : goal.returns-in_err-record-clause-crash
returns-in_err-record-clause-crash g c = λ told. follows_same (MayBeCut c.args.len) c.args.self.now.events.items c.record.new.events.items c.in_err-record.ensures.err (λ left was. uncut c.args.len left)

pub invariant_of-self-2-clause-seen_left : goal.invariant_of-self-2-clause-seen_left
invariant_of-self-2-clause-seen_left g c =
    let d = c.args.self.now in
    let len = c.args.len in
    let new = c.record.new.events.items in
    let is = outcomes-more d.events.items (Cut len) new c.in_ok-record.ensures.ok in
    let file_is = c.truncate.ensures.items in
    ∥∥₁_map d.seen_left (λ left. once_changed (MayBeCut len) (IsCut len) d.events.items new is d.file.items c.truncate.new.self.items left (subst (MayBeCut len d.file.items) (sym file_is) (all_cut len d.file.items)) file_is)

pub invariant_of-self-2-clause-one_name : goal.invariant_of-self-2-clause-one_name
invariant_of-self-2-clause-one_name g c = λ named left was.
    let d = c.args.self.now in
    let len = c.args.len in
    let new = c.record.new.events.items in
    let is = outcomes-more d.events.items (Cut len) new c.in_ok-record.ensures.ok in
    d.one_name named left (other_changed (MayBeCut len) (IsCut len) d.events.items new is left was)

pub returns-clause-shown : goal.returns-clause-shown
returns-clause-shown g c = λ told.
    let events = c.args.self.now.events.items in
    let len = c.args.len in
    let new = c.record.new.events.items in
    let is = outcomes-more events (Cut len) new c.in_ok-record.ensures.ok in
    shown_changed (MayBeCut len) (IsCut len) events new is

pub returns-clause-renames : goal.returns-clause-renames
returns-clause-renames g c = λ told.
    let events = c.args.self.now.events.items in
    let len = c.args.len in
    let new = c.record.new.events.items in
    let is = outcomes-more events (Cut len) new c.in_ok-record.ensures.ok in
    renames_changed (MayBeCut len) (IsCut len) events new is

pub returns-clause-crash : goal.returns-clause-crash
returns-clause-crash g c = λ told.
    let events = c.args.self.now.events.items in
    let len = c.args.len in
    let new = c.record.new.events.items in
    let is = outcomes-more events (Cut len) new c.in_ok-record.ensures.ok in
    crash_changed (MayBeCut len) (IsCut len) events new is (λ left was. uncut len left)

pub returns-clause-synced : goal.returns-clause-synced
returns-clause-synced g c = λ told.
    let events = c.args.self.now.events.items in
    let len = c.args.len in
    let new = c.record.new.events.items in
    let is = outcomes-more events (Cut len) new c.in_ok-record.ensures.ok in
    synced_changed (MayBeCut len) (IsCut len) events new is

pub returns-clause-time : goal.returns-clause-time
returns-clause-time g c = λ told.
    let events = c.args.self.now.events.items in
    let len = c.args.len in
    let new = c.record.new.events.items in
    let is = outcomes-more events (Cut len) new c.in_ok-record.ensures.ok in
    elapses_kept events (Cut len) new c.in_ok-record.ensures.ok (shown_changed (MayBeCut len) (IsCut len) events new is)
