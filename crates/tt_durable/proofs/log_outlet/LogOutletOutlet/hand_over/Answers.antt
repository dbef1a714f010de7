-- The lines are logged behind those that are there, and then the text is handed over.
use Rattle.std.proofs.Common.{◌≡◌, ◌≢◌, ◌+◌, ◌<◌, ◌++◌, Some, inl, inr, ⊎_elim, refl, sym, subst, ◌∙◌, arith}
use Rattle.tt_log.specs.Device.{LeavesNoNewFile}
use Rattle.tt_log.specs.Lines.{logged}
use Rattle.tt_log.specs.declared.log_error.LogError.{LogError}
use Rattle.tt_log.specs.declared.log_error.LogError.TheVariants as errors
use Rattle.tt_log.specs.Log.{KeepsAnswered}
use Rattle.tt_log.proofs.MomentLemmas as moments
use Rattle.tt_session.specs.Answering.{turns_of, unlogged_count}
use Rattle.tt_session.specs.Logged.{log_after}
use Rattle.tt_durable.specs.OnLog.{LeavesAnswered, StoppedInLog, StoppedOnLog, CannotWrite}
use Rattle.tt_commands.proofs.ResultLemmas.{at_err}
use Rattle.tt_durable.proofs.OnLogLemmas.{leaves-more, leaves-shown, shown-all, shown-first, lines-all, full-stopped, why-stopped, new-append, new-plain, unlogged-kept, no-new-then}
use Rattle.tt_durable.proofs.log_outlet.LogOutletOutlet.hand_over.Goals as goal

pub returns-in-Ok-clause-handed : goal.returns-in-Ok-clause-handed
returns-in-Ok-clause-handed g c = λ first start over kept so_far is told.
    let D = g.D.Device in
    let h = so_far told in
    let done = c.hand_over.ensures in
    let begun = first.log.device in
    let old = c.args.self.now.log.device in
    let new = c.hand_over.new.self.device in
    let lines = logged (D.seen begun) in
    let shown = D.shown begun in
    record {
      tells = done.tells.0 h.tells;
      lines_are =
          lines-all start lines over kept shown c.args.lines.now c.args.text.now (logged (D.seen old)) (D.shown old) (is.lines_are tt) is.text_is is.plain h.lines_are h.shown_is _
          (c.in-Ok.ensures.logged h.tells);
      shown_is =
          shown-all start lines over kept shown c.args.lines.now c.args.text.now (logged (D.seen old)) (D.shown old) (is.lines_are tt) is.text_is is.plain h.lines_are h.shown_is _
          (c.in-Ok.ensures.shown h.tells);
      any_moment =
          moments.joined D.moment D.left_since begun old new (LeavesAnswered start lines over shown) (KeepsAnswered (logged (D.seen old)) c.args.lines.now (D.shown old) c.args.text.now)
          (LeavesAnswered start lines (over ++ kept) shown) h.any_moment (done.any_moment h.tells) (λ left p. leaves-more start lines over kept shown left p)
          (λ left p.
          leaves-shown start lines over kept shown c.args.lines.now c.args.text.now (logged (D.seen old)) (D.shown old) (is.lines_are tt) is.text_is is.plain h.lines_are h.shown_is left p);
      new_logs = new-append start over kept h.new_logs (new-plain (turns_of start over).session kept is.plain);
      failures = omega (arith, h.failures, done.failures h.tells, unlogged-kept start over kept is.plain);
      no_new =
          subst (λ n. LeavesNoNewFile D.has_new_file D.failures n begun new) (sym (unlogged-kept start over kept is.plain))
          (no-new-then D begun old new (unlogged_count over) h.no_new (done.no_new h.tells) (done.failures h.tells));
    }

pub returns-in-Err-clause-stopped : goal.returns-in-Err-clause-stopped
returns-in-Err-clause-stopped g c = λ first start over kept more so_far is told.
    let D = g.D.Device in
    let h = so_far told in
    let done = c.hand_over.ensures in
    let begun = first.log.device in
    let old = c.args.self.now.log.device in
    let new = c.hand_over.new.self.device in
    let lines = logged (D.seen begun) in
    let shown = D.shown begun in
    let of = D in
    let now = logged (D.seen old) in
    let all = lines-all start lines over kept shown c.args.lines.now c.args.text.now now (D.shown old) (is.lines_are tt) is.text_is is.plain h.lines_are h.shown_is _ refl in
    let moment =
    moments.joined D.moment D.left_since begun old new (LeavesAnswered start lines over shown) (KeepsAnswered now c.args.lines.now (D.shown old) c.args.text.now)
    (LeavesAnswered start lines (over ++ kept) shown) h.any_moment (done.any_moment h.tells) (λ left p. leaves-more start lines over kept shown left p)
    (λ left p.
    leaves-shown start lines over kept shown c.args.lines.now c.args.text.now now (D.shown old) (is.lines_are tt) is.text_is is.plain h.lines_are h.shown_is left p) in
    let new_logs = new-append start over kept h.new_logs (new-plain (turns_of start over).session kept is.plain) in
    let unlogged = unlogged-kept start over kept is.plain in
    let no_new = no-new-then D begun old new (unlogged_count over) h.no_new (done.no_new h.tells) (done.failures h.tells) in
    let no_new_failed : (D.failures old < D.failures new) → LeavesNoNewFile D.has_new_file D.failures (unlogged_count (over ++ kept) + 1) begun new = λ failed now. ⊎_elim (λ was. inl was) (λ more_failed. inr (omega (arith, more_failed, failed, unlogged))) (h.no_new (done.no_new h.tells now)) in
    let in_log : D.shown new ≡ D.shown old → CannotWrite D begun new (unlogged_count (over ++ kept)) (log_after lines start (over ++ kept)) → StoppedInLog of begun new start ((over ++ kept) ++ more) = λ unshown why. record {
      answered = over;
      pending = kept;
      others = more;
      reads_are = refl;
      shown_is = unshown ∙ h.shown_is;
      any_moment = moment;
      new_logs = new_logs;
      failures = omega (arith, h.failures, done.failures h.tells, unlogged);
      why = why;
    } in
    let unless_output = λ (e : LogError). e ≢ errors.HandOver → D.shown new ≡ D.shown old in
    why-stopped c.hand_over.result c.in-Err.error (λ e. StoppedOnLog (Some e) of begun new start ((over ++ kept) ++ more)) c.in-Err.is
    (λ e. in_log (at_err unless_output c.hand_over.result errors.Write e (done.unshown h.tells) (λ same. cc)) (inl (omega (arith, h.failures, done.write h.tells e, unlogged), no_new_failed (done.write h.tells e))))
    (λ e. record {
      answered = over ++ kept;
      others = more;
      reads_are = refl;
      shown_is = shown-first start lines over kept shown c.args.lines.now c.args.text.now now (D.shown old) (is.lines_are tt) is.text_is is.plain h.lines_are h.shown_is _ (done.first h.tells);
      any_moment = moment;
      new_logs = new_logs;
      lines_are = done.all_logged h.tells e ∙ all;
      failed = omega (arith, h.failures, done.hand_over h.tells e, unlogged);
      no_new = no_new_failed (done.hand_over h.tells e);
    })
    (λ e. in_log (at_err unless_output c.hand_over.result errors.Full e (done.unshown h.tells) (λ same. cc)) (inr (
      full-stopped start lines (over ++ kept) now c.args.lines.now c.args.self.now.log.end all (c.requires h.tells).end (done.full e),
      subst (λ n. LeavesNoNewFile D.has_new_file D.failures n begun new) (sym unlogged) no_new,
    ))) done.no_read
