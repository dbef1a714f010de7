use Rattle.std.proofs.Common.{◌<◌, length, ◌∙◌, ap, sym, subst, arith}
use Rattle.tt_log.specs.Log.{IsAtRest}
use Rattle.tt_log.specs.Lines.{logged, joined}
use Rattle.tt_log.proofs.WriteLemmas.{at_rest-grown, logged-longer, longer}
use Rattle.tt_log.proofs.SyncLemmas.{all_synced, only_synced}
use Rattle.tt_log.specs.Crash.{IsLonger}
use Rattle.tt_log.proofs.StepLemmas.{grown, grown_synced}
use Rattle.tt_log.proofs.UncleanLemmas.{grow_unclean, grow_sync_unclean}
use Rattle.tt_log.proofs.log.Log.make_room.Goals as goal

pub returns-in_err-grow-clause-any_moment : goal.returns-in_err-grow-clause-any_moment
returns-in_err-grow-clause-any_moment g c = λ told.
    let d = c.args.self.now.device in
    grown g.D.Device.shown g.D.Device.may_leave g.D.Device.moment g.D.Device.left_since g.met.D.Device.only_now d c.grow.new.self (g.D.Device.seen d) _ (c.requires told).durable (c.grow.ensures.crash told) (c.grow.ensures.time told)

pub returns-in_err-sync-clause-any_moment : goal.returns-in_err-sync-clause-any_moment
returns-in_err-sync-clause-any_moment g c = λ told.
    let d = c.args.self.now.device in
    grown_synced g.D.Device.shown g.D.Device.may_leave g.D.Device.moment g.D.Device.left_since g.met.D.Device.only_now d c.grow.new.self c.sync.new.self (g.D.Device.seen d) _ (c.requires told).durable (c.grow.ensures.crash told) (c.grow.ensures.time told) (c.grow.ensures.shown told) (c.sync.ensures.crash (c.grow.ensures.tells.0 told)) (c.sync.ensures.time (c.grow.ensures.tells.0 told))

pub returns-clause-any_moment : goal.returns-clause-any_moment
returns-clause-any_moment g c = λ told.
    let d = c.args.self.now.device in
    grown_synced g.D.Device.shown g.D.Device.may_leave g.D.Device.moment g.D.Device.left_since g.met.D.Device.only_now d c.grow.new.self c.sync.new.self (g.D.Device.seen d) _ (c.requires told).durable (c.grow.ensures.crash told) (c.grow.ensures.time told) (c.grow.ensures.shown told) (c.sync.ensures.crash (c.grow.ensures.tells.0 told)) (c.sync.ensures.time (c.grow.ensures.tells.0 told))

pub returns-clause-logged : goal.returns-clause-logged
returns-clause-logged g c = λ told.
    let d = c.args.self.now.device in
    ap logged (c.in_ok-sync.ensures.seen (c.grow.ensures.tells.0 told)) ∙ logged-longer _ (g.D.Device.seen d) (g.D.Device.seen c.grow.new.self) (longer _ (g.D.Device.seen d) (g.D.Device.seen c.grow.new.self) (c.in_ok-grow.ensures.grown told))

pub returns-clause-settled : goal.returns-clause-settled
returns-clause-settled g c = λ told.
    let s = c.requires told in
    let d = c.args.self.now.device in
    let grown_is = c.in_ok-grow.ensures.grown told in
    let grown_to = longer _ (g.D.Device.seen d) (g.D.Device.seen c.grow.new.self) grown_is in
    let told_1 = c.grow.ensures.tells.0 told in
    let same = c.in_ok-sync.ensures.seen (c.grow.ensures.tells.0 told) in
    record {
      at_rest = subst IsAtRest (sym same) (at_rest-grown _ (g.D.Device.seen d) (g.D.Device.seen c.grow.new.self) s.at_rest grown_to);
      end = s.end ∙ ap (λ ls. length (joined ls)) (sym (returns-clause-logged g c told));
      len = sym (ap length same ∙ (c.in_ok-grow.ensures.len told));
      durable = all_synced (IsLonger c.next_multiple_of-len.result) (g.D.Device.seen d) (g.D.Device.seen c.sync.new.self) (g.D.Device.once_synced d) (g.D.Device.once_synced c.grow.new.self) (g.D.Device.may_leave c.sync.new.self)
          (only_synced (g.D.Device.seen d) (g.D.Device.may_leave d) (g.D.Device.once_synced d) s.durable (g.met.D.Device.synced_is_left d told))
          (c.in_ok-grow.ensures.synced told) (c.in_ok-sync.ensures.durable told_1) (λ f is. is ∙ sym grown_is ∙ sym same);
    }

-- what a crash leaves doesn't look ended
pub returns-in_err-grow-clause-unclean : goal.returns-in_err-grow-clause-unclean
returns-in_err-grow-clause-unclean g c = λ told.
    let V = g.D.Device in
    let s = c.requires told in
    let d = c.args.self.now.device in
    let more : length (joined (logged (V.seen d))) < length (V.seen d) = omega (arith, c.args.self.now.within, s.end, s.len) in
    grow_unclean V.shown V.may_leave V.moment V.left_since g.met.D.Device.only_now d c.grow.new.self (V.seen d) _ more s.durable (c.grow.ensures.crash told) (c.grow.ensures.time told)

pub returns-in_err-sync-clause-unclean : goal.returns-in_err-sync-clause-unclean
returns-in_err-sync-clause-unclean g c = λ told.
    let V = g.D.Device in
    let told_1 = c.grow.ensures.tells.0 told in
    let s = c.requires told in
    let d = c.args.self.now.device in
    let more : length (joined (logged (V.seen d))) < length (V.seen d) = omega (arith, c.args.self.now.within, s.end, s.len) in
    grow_sync_unclean V.shown V.may_leave V.moment V.left_since g.met.D.Device.only_now d c.grow.new.self c.sync.new.self (V.seen d) _ more s.durable (c.grow.ensures.crash told) (c.grow.ensures.time told) (c.sync.ensures.crash told_1) (c.sync.ensures.time told_1)

pub returns-clause-unclean : goal.returns-clause-unclean
returns-clause-unclean g c = λ told.
    let V = g.D.Device in
    let told_1 = c.grow.ensures.tells.0 told in
    let s = c.requires told in
    let d = c.args.self.now.device in
    let more : length (joined (logged (V.seen d))) < length (V.seen d) = omega (arith, c.args.self.now.within, s.end, s.len) in
    grow_sync_unclean V.shown V.may_leave V.moment V.left_since g.met.D.Device.only_now d c.grow.new.self c.sync.new.self (V.seen d) _ more s.durable (c.grow.ensures.crash told) (c.grow.ensures.time told) (c.sync.ensures.crash told_1) (c.sync.ensures.time told_1)
