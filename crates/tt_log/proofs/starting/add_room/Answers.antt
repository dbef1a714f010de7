-- The file is made longer, and then synced.
use Rattle.std.proofs.Common.{◌∙◌, sym, refl}
use Rattle.tt_log.specs.Crash.{IsLonger}
use Rattle.tt_log.specs.Lines.{logged}
use Rattle.tt_log.proofs.RenewalLemmas.{at_rest-filled, logged-filled}
use Rattle.tt_log.proofs.SyncLemmas.{all_synced, crash_longer, once_yet, once_on}
use Rattle.tt_log.proofs.starting.add_room.Goals as goal

pub returns-in_err-grow-clause-any_moment : goal.returns-in_err-grow-clause-any_moment
returns-in_err-grow-clause-any_moment g c = λ told.
    let V = g.D.Device in
    let d = c.args.device.now in
    let lines = logged (V.seen d) in
    once_on V.seen V.shown V.may_leave V.moment V.left_since V.failures g.met.D.Device.only_now d d c.grow.new.self lines
    (once_yet V.seen V.shown V.may_leave V.moment V.left_since V.failures g.met.D.Device.only_now d lines) (c.grow.ensures.time told) refl
    (crash_longer _ (V.may_leave d) (V.may_leave c.grow.new.self) lines (V.shown d) (c.grow.ensures.crash told))

pub returns-in_err-sync-clause-any_moment : goal.returns-in_err-sync-clause-any_moment
returns-in_err-sync-clause-any_moment g c = λ told.
    let V = g.D.Device in
    let d = c.args.device.now in
    let lines = logged (V.seen d) in
    let told_1 = c.grow.ensures.tells.0 told in
    let left_grown = crash_longer _ (V.may_leave d) (V.may_leave c.grow.new.self) lines (V.shown d) (c.grow.ensures.crash told) in
    once_on V.seen V.shown V.may_leave V.moment V.left_since V.failures g.met.D.Device.only_now d c.grow.new.self c.sync.new.self lines
    (once_on V.seen V.shown V.may_leave V.moment V.left_since V.failures g.met.D.Device.only_now d d c.grow.new.self lines
    (once_yet V.seen V.shown V.may_leave V.moment V.left_since V.failures g.met.D.Device.only_now d lines) (c.grow.ensures.time told) refl left_grown)
    (c.sync.ensures.time told_1) (c.grow.ensures.shown told) (λ left now. left_grown left (c.sync.ensures.crash told_1 left.file now.0, now.1))

pub returns-clause-any_moment : goal.returns-clause-any_moment
returns-clause-any_moment g c = λ told.
    let V = g.D.Device in
    let d = c.args.device.now in
    let lines = logged (V.seen d) in
    let told_1 = c.grow.ensures.tells.0 told in
    let left_grown = crash_longer _ (V.may_leave d) (V.may_leave c.grow.new.self) lines (V.shown d) (c.grow.ensures.crash told) in
    once_on V.seen V.shown V.may_leave V.moment V.left_since V.failures g.met.D.Device.only_now d c.grow.new.self c.sync.new.self lines
    (once_on V.seen V.shown V.may_leave V.moment V.left_since V.failures g.met.D.Device.only_now d d c.grow.new.self lines
    (once_yet V.seen V.shown V.may_leave V.moment V.left_since V.failures g.met.D.Device.only_now d lines) (c.grow.ensures.time told) refl left_grown)
    (c.sync.ensures.time told_1) (c.grow.ensures.shown told) (λ left now. left_grown left (c.sync.ensures.crash told_1 left.file now.0, now.1))

pub returns-clause-at_rest : goal.returns-clause-at_rest
returns-clause-at_rest g c = λ told.
    let is = c.in_ok-sync.ensures.seen (c.grow.ensures.tells.0 told) ∙ c.in_ok-grow.ensures.grown told in
    at_rest-filled (g.D.Device.seen c.args.device.now) (g.D.Device.seen c.sync.new.self) _ is (c.requires.lines told)

pub returns-clause-logged : goal.returns-clause-logged
returns-clause-logged g c = λ told.
    let is = c.in_ok-sync.ensures.seen (c.grow.ensures.tells.0 told) ∙ c.in_ok-grow.ensures.grown told in
    logged-filled (g.D.Device.seen c.args.device.now) (g.D.Device.seen c.sync.new.self) _ is

pub returns-clause-durable : goal.returns-clause-durable
returns-clause-durable g c = λ told.
    let V = g.D.Device in
    let d = c.args.device.now in
    let told_1 = c.grow.ensures.tells.0 told in
    all_synced (IsLonger _) (V.seen d) (V.seen c.sync.new.self) (V.once_synced d) (V.once_synced c.grow.new.self) (V.may_leave c.sync.new.self)
    (c.requires.left told) (c.in_ok-grow.ensures.synced told) (c.in_ok-sync.ensures.durable told_1)
    (λ f is. is ∙ sym (c.in_ok-grow.ensures.grown told) ∙ sym (c.in_ok-sync.ensures.seen told_1))
