-- The file is cut behind its lines, and then synced.
use Rattle.std.proofs.Common.{refl, ap, ◌∙◌, arith}
use Rattle.tt_log.specs.Lines.{logged}
use Rattle.tt_log.specs.Log.{Keeps}
use Rattle.tt_log.proofs.LineLemmas.{AreLines-logged}
use Rattle.tt_log.proofs.PendingLemmas.{logged-lines, IsJoined-joined}
use Rattle.tt_log.proofs.StepLemmas.{none_yet, step}
use Rattle.tt_log.proofs.SyncLemmas.{crash_cut, cut_to_lines}
use Rattle.tt_log.proofs.closing.end_file.Goals as goal

pub returns-in_err-cut-clause-any_moment : goal.returns-in_err-cut-clause-any_moment
returns-in_err-cut-clause-any_moment g c = λ told.
    let d = c.args.device.now in
    let file = g.D.Device.seen d in
    let only = c.requires.durable told in
    step g.D.Device.shown g.D.Device.may_leave g.D.Device.moment g.D.Device.left_since g.met.D.Device.only_now d d c.cut.new.self (Keeps (logged file) (g.D.Device.shown d))
    (none_yet g.D.Device.shown g.D.Device.may_leave g.D.Device.moment g.D.Device.left_since g.met.D.Device.only_now d file only) (c.cut.ensures.time told) refl
    (crash_cut file (c.requires.at_rest told) c.args.end (g.D.Device.may_leave d) (g.D.Device.may_leave c.cut.new.self) (g.D.Device.shown d) (omega (arith, c.requires.end told)) only (c.cut.ensures.crash told))

pub returns-clause-any_moment : goal.returns-clause-any_moment
returns-clause-any_moment g c = λ told.
    let d = c.args.device.now in
    let file = g.D.Device.seen d in
    let only = c.requires.durable told in
    let told_1 = c.cut.ensures.tells.0 told in
    let cut = crash_cut file (c.requires.at_rest told) c.args.end (g.D.Device.may_leave d) (g.D.Device.may_leave c.cut.new.self) (g.D.Device.shown d) (omega (arith, c.requires.end told)) only (c.cut.ensures.crash told) in
    let first = step g.D.Device.shown g.D.Device.may_leave g.D.Device.moment g.D.Device.left_since g.met.D.Device.only_now d d c.cut.new.self (Keeps (logged file) (g.D.Device.shown d))
    (none_yet g.D.Device.shown g.D.Device.may_leave g.D.Device.moment g.D.Device.left_since g.met.D.Device.only_now d file only) (c.cut.ensures.time told) refl cut in
    step g.D.Device.shown g.D.Device.may_leave g.D.Device.moment g.D.Device.left_since g.met.D.Device.only_now d c.cut.new.self c.sync.new.self (Keeps (logged file) (g.D.Device.shown d))
    first (c.sync.ensures.time told_1) (c.cut.ensures.shown told) (λ left now. cut left (c.sync.ensures.crash told_1 left.file now.0, now.1))

pub returns-in_err-sync-clause-any_moment : goal.returns-in_err-sync-clause-any_moment
returns-in_err-sync-clause-any_moment g c = λ told.
    let d = c.args.device.now in
    let file = g.D.Device.seen d in
    let only = c.requires.durable told in
    let told_1 = c.cut.ensures.tells.0 told in
    let cut = crash_cut file (c.requires.at_rest told) c.args.end (g.D.Device.may_leave d) (g.D.Device.may_leave c.cut.new.self) (g.D.Device.shown d) (omega (arith, c.requires.end told)) only (c.cut.ensures.crash told) in
    let first = step g.D.Device.shown g.D.Device.may_leave g.D.Device.moment g.D.Device.left_since g.met.D.Device.only_now d d c.cut.new.self (Keeps (logged file) (g.D.Device.shown d))
    (none_yet g.D.Device.shown g.D.Device.may_leave g.D.Device.moment g.D.Device.left_since g.met.D.Device.only_now d file only) (c.cut.ensures.time told) refl cut in
    step g.D.Device.shown g.D.Device.may_leave g.D.Device.moment g.D.Device.left_since g.met.D.Device.only_now d c.cut.new.self c.sync.new.self (Keeps (logged file) (g.D.Device.shown d))
    first (c.sync.ensures.time told_1) (c.cut.ensures.shown told) (λ left now. cut left (c.sync.ensures.crash told_1 left.file now.0, now.1))

pub returns-clause-lines : goal.returns-clause-lines
returns-clause-lines g c = λ told.
    let file = g.D.Device.seen c.args.device.now in
    let is = c.in_ok-sync.ensures.seen (c.cut.ensures.tells.0 told) ∙ c.in_ok-cut.ensures.cut told ∙ cut_to_lines file (c.requires.at_rest told) c.args.end (c.requires.end told) in
    IsJoined-joined (g.D.Device.seen c.sync.new.self) (logged file) (AreLines-logged file) is

pub returns-clause-logged : goal.returns-clause-logged
returns-clause-logged g c = λ told.
    let file = g.D.Device.seen c.args.device.now in
    let is = c.in_ok-sync.ensures.seen (c.cut.ensures.tells.0 told) ∙ c.in_ok-cut.ensures.cut told ∙ cut_to_lines file (c.requires.at_rest told) c.args.end (c.requires.end told) in
    ap logged is ∙ logged-lines (logged file) (AreLines-logged file)
