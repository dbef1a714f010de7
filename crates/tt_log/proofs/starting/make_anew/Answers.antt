-- The lines are copied into a new file, which takes the place of the file.
use Rattle.std.proofs.Common.{◌≡◌, length, take, sym, ◌∙◌, ap, subst, arith}
use Rattle.tt_log.specs.Lines.{logged}
use Rattle.tt_log.specs.Device.{NothingNew}
use Rattle.tt_log.specs.Log.{KeepsOnceSynced}
use Rattle.tt_log.proofs.LineLemmas.{AreLines-logged}
use Rattle.tt_log.proofs.PendingLemmas.{logged-lines, IsJoined-joined}
use Rattle.tt_log.proofs.MomentLemmas.{joined as one_behind}
use Rattle.tt_log.proofs.SyncLemmas.{lines_within, take_lines, on_ok, stays_yet, stays_on, stays_once, once_earlier}
use Rattle.tt_log.proofs.starting.make_anew.Goals as goal

pub copy_lines-requires-clause-within : goal.copy_lines-requires-clause-within
copy_lines-requires-clause-within g c = λ told_1.
    let told = c.create_new.ensures.tells.1 told_1 in
    let file = g.D.Device.seen c.args.device.now in
    omega (arith, c.requires.end told, lines_within file, ap length (c.create_new.ensures.seen told))

pub take_place-requires-clause-end : goal.take_place-requires-clause-end
take_place-requires-clause-end g c = λ told_2.
    let told_1 = c.copy_lines.ensures.tells.1 told_2 in
    let told = c.create_new.ensures.tells.1 told_1 in
    let file = g.D.Device.seen c.args.device.now in
    let end = c.args.end in
    let is = c.in-Ok.ensures.copied told_1 ∙ ap (take end) (c.create_new.ensures.seen told) ∙ take_lines file end (c.requires.end told) in
    c.requires.end told ∙ sym (ap length is)

pub take_place-requires-clause-lines : goal.take_place-requires-clause-lines
take_place-requires-clause-lines g c = λ told_2.
    let told_1 = c.copy_lines.ensures.tells.1 told_2 in
    let told = c.create_new.ensures.tells.1 told_1 in
    let file = g.D.Device.seen c.args.device.now in
    let end = c.args.end in
    let is = c.in-Ok.ensures.copied told_1 ∙ ap (take end) (c.create_new.ensures.seen told) ∙ take_lines file end (c.requires.end told) in
    IsJoined-joined (g.D.Device.new_file c.copy_lines.new.device) (logged file) (AreLines-logged file) is

pub returns-in-Ok-clause-logged : goal.returns-in-Ok-clause-logged
returns-in-Ok-clause-logged g c = λ told.
    let told_1 = c.create_new.ensures.tells.0 told in
    let told_2 = c.copy_lines.ensures.tells.0 told_1 in
    let file = g.D.Device.seen c.args.device.now in
    let end = c.args.end in
    let is = c.in-Ok.ensures.copied told_1 ∙ ap (take end) (c.create_new.ensures.seen told) ∙ take_lines file end (c.requires.end told) in
    on_ok c.take_place.result (λ lines. lines ∙ ap logged is ∙ logged-lines (logged file) (AreLines-logged file)) (c.take_place.ensures.logged told_2)

pub returns-in-Ok-clause-any_moment : goal.returns-in-Ok-clause-any_moment
returns-in-Ok-clause-any_moment g c = λ told.
    let V = g.D.Device in
    let told_1 = c.create_new.ensures.tells.0 told in
    let told_2 = c.copy_lines.ensures.tells.0 told_1 in
    let old = c.args.device.now in
    let created = c.create_new.new.self in
    let copied = c.copy_lines.new.device in
    let new = c.take_place.new.device in
    let file = V.seen old in
    let lines = logged file in
    let end = c.args.end in
    let is = c.in-Ok.ensures.copied told_1 ∙ ap (take end) (c.create_new.ensures.seen told) ∙ take_lines file end (c.requires.end told) in
    let same : logged (V.new_file copied) ≡ lines = ap logged is ∙ logged-lines lines (AreLines-logged file) in
    let only = g.met.D.Device.only_now in
    let first = stays_on V.seen V.shown V.may_leave V.moment V.left_since V.failures only old old created (stays_yet V.seen V.shown V.may_leave V.moment V.left_since V.failures only old)
    (c.create_new.ensures.seen told) (c.create_new.ensures.shown told) (c.create_new.ensures.crash told) (c.create_new.ensures.time told) (c.create_new.ensures.failed told).later in
    let second = c.copy_lines.ensures.stays told_1 in
    let less : NothingNew (V.may_leave old) (V.may_leave copied) = λ left was. first.nothing_new left (second.nothing_new left was) in
    let shown_same : V.shown copied ≡ V.shown old = second.shown_is ∙ first.shown_is in
    let K = KeepsOnceSynced (V.may_leave old) lines (V.shown old) in
    one_behind V.moment V.left_since old copied new K (KeepsOnceSynced (V.may_leave copied) (logged (V.new_file copied)) (V.shown copied)) K
    (one_behind V.moment V.left_since old created copied K (KeepsOnceSynced (V.may_leave created) lines (V.shown created)) K
    (stays_once V.seen V.shown V.may_leave V.moment V.left_since V.failures only old created lines first)
    (stays_once V.seen V.shown V.may_leave V.moment V.left_since V.failures only created copied lines second)
    (λ left k. k) (once_earlier (V.may_leave old) (V.may_leave created) lines (V.shown old) (V.shown created) first.nothing_new first.shown_is))
    (c.take_place.ensures.any_moment told_2)
    (λ left k. k)
    (λ left k. once_earlier (V.may_leave old) (V.may_leave copied) lines (V.shown old) (V.shown copied) less shown_same left (subst (λ ls. KeepsOnceSynced (V.may_leave copied) ls (V.shown copied) left) same k))
