-- There are no lines, so only the output can have failed.
use Rattle.std.proofs.Common.{◌≡◌, ◌++◌, append-nil, Some, Err, ap, subst, ◌∙◌}
use Rattle.tt_log.specs.Lines.{logged}
use Rattle.tt_log.specs.declared.log_error.LogError.TheVariants as errors
use Rattle.tt_log.specs.Log.{KeepsAnswered}
use Rattle.tt_log.proofs.MomentLemmas as moments
use Rattle.tt_durable.specs.Renewing.{KeepsShowing}
use Rattle.tt_durable.proofs.RenewingLemmas.{shows-none}
use Rattle.tt_durable.proofs.log_outlet.LogOutlet.hand_over_alone.Goals as goal

pub returns-clause-err : goal.returns-clause-err
returns-clause-err g c = λ told.
    let D = g.D.Device in
    let done = c.hand_over-2.ensures in
    let old = c.args.self.now.log.device in
    let new = c.hand_over-2.new.self.device in
    let lines = logged (D.seen old) in
    let shown = D.shown old in
    let text = c.args.text.now in
    let error : c.in-Err.error ≡ errors.HandOver = c.in-Err.ensures.alone c.new.ensures in
    let is : c.hand_over-2.result ≡ Err errors.HandOver = c.in-Err.is ∙ ap Err error in
    record {
      error_is = ap Some error;
      lines_are = done.all_logged told is ∙ ap (λ ls. lines ++ ls) c.new.ensures ∙ append-nil lines;
      first = done.first told;
      any_moment =
          moments.weaker D.moment D.left_since old new (KeepsAnswered lines c.new.result shown text) (KeepsShowing lines shown text) (done.any_moment told)
          (λ left p. shows-none lines shown text left (subst (λ ls. KeepsAnswered lines ls shown text left) c.new.ensures p));
      failed = done.hand_over told is;
      no_new = done.no_new told;
    }
