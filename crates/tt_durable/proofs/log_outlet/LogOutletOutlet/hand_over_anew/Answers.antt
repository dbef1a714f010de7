-- The log is made anew, and then the answer is handed over; or it goes on as it was, and the refusal is handed over or nothing.
use Rattle.std.proofs.Common.{List, ℕ, Err, inl, refl, ap, arith, ◌∙◌, subst}
use Rattle.tt_log.specs.Device.{LeavesNoNewFile}
use Rattle.tt_log.specs.Lines.{logged}
use Rattle.tt_log.specs.Log.{Keeps, KeepsEither}
use Rattle.tt_log.proofs.MomentLemmas as moments
use Rattle.tt_session.specs.LogLines.{lines_of_database}
use Rattle.tt_session.specs.Logged.{log_after}
use Rattle.tt_session.specs.Together.{kept_line, unlogged_line}
use Rattle.tt_durable.specs.Renewing.{FailsToRenew, failures_by}
use Rattle.tt_commands.proofs.ResultLemmas.{on_err}
use Rattle.tt_durable.proofs.AnewLemmas.{step-anew, step-refused, handed-anew, stopped-anew, lost-anew, handed-kept}
use Rattle.tt_durable.proofs.log_outlet.LogOutletOutlet.hand_over_anew.Goals as goal

pub returns-in_err-hand_over_alone-in-Ok-clause-stopped : goal.returns-in_err-hand_over_alone-in-Ok-clause-stopped
returns-in_err-hand_over_alone-in-Ok-clause-stopped g c =
    on_err c.from_residual.result (λ first start over line so_far p. (
      kept_line line,
      refl,
      λ more told.
          let D = g.D.Device in
          let of = D in
          let f = c.args.forgotten.now.forgetting.now in
          let terms = c.args.forgotten.now.terms in
          let text = c.args.forgotten.now.text.now in
          let refusal = c.args.forgotten.now.refusal.now in
          let old = c.args.self.now.log in
          let h = so_far told in
          let took = c.in-Ok.ensures.ok h.tells in
          stopped-anew of first.log.device start over old.device h (kept_line line) (lines_of_database f.db f.numbering f.stamps terms) text
          (step-anew of first.log.device start over line f terms text refusal p c.in-Ok.ensures.readable) c.make_anew.new.log c.hand_over_alone.new.self.log took.any_moment took.lines_are took.shown
          (omega (arith, took.failures)) (λ now. absurd (c.in-Ok.ensures.no_new h.tells now)) c.hand_over_alone.new.self.error more (c.in_err-hand_over_alone-in-Ok.ensures.err took.tells),
    ))

pub returns-in_err-hand_over_alone-in-Err-Kept-clause-stopped : goal.returns-in_err-hand_over_alone-in-Err-Kept-clause-stopped
returns-in_err-hand_over_alone-in-Err-Kept-clause-stopped g c =
    on_err c.from_residual-in_err-hand_over_alone-in-Err-Kept.result (λ first start over line so_far p. (
      unlogged_line line,
      refl,
      λ more told.
          let D = g.D.Device in
          let of = D in
          let f = c.args.forgotten.now.forgetting.now in
          let terms = c.args.forgotten.now.terms in
          let text = c.args.forgotten.now.text.now in
          let refusal = c.args.forgotten.now.refusal.now in
          let old = c.args.self.now.log in
          let mid = c.make_anew.new.log in
          let h = so_far told in
          let kept =
          subst (λ fault. FailsToRenew fault of old mid (lines_of_database f.db f.numbering f.stamps terms)) c.in-Err-Kept.field-0-is (c.in-Err-Kept.ensures.err h.tells) in
          let keeps = kept.0 in
          let lines : List (List ℕ) = logged (D.seen old.device) in
          let new : List (List ℕ) = log_after (logged (D.seen first.log.device)) start over in
          stopped-anew of first.log.device start over old.device h (unlogged_line line) new refusal (step-refused of first.log.device start over line f terms text refusal p) mid
          c.hand_over_alone-in-Err-Kept.new.self.log
          (moments.weaker D.moment D.left_since old.device mid.device (Keeps lines (D.shown old.device)) (KeepsEither lines new (D.shown old.device)) keeps.any_moment (λ left q. inl q))
          (ap logged keeps.seen ∙ h.lines_are) keeps.shown (omega (arith, kept.1))
          (subst (λ fault. LeavesNoNewFile D.has_new_file D.failures (failures_by fault) old.device mid.device) c.in-Err-Kept.field-0-is (c.in-Err-Kept.ensures.no_new_err h.tells)) c.hand_over_alone-in-Err-Kept.new.self.error more (c.in_err-hand_over_alone-in-Err-Kept.ensures.err keeps.tells),
    ))

pub returns-in_ok-hand_over_alone-in-Ok-clause-renewed : goal.returns-in_ok-hand_over_alone-in-Ok-clause-renewed
returns-in_ok-hand_over_alone-in-Ok-clause-renewed g c = λ first start over line so_far p told.
    let D = g.D.Device in
    let of = D in
    let f = c.args.forgotten.now.forgetting.now in
    let terms = c.args.forgotten.now.terms in
    let text = c.args.forgotten.now.text.now in
    let refusal = c.args.forgotten.now.refusal.now in
    let old = c.args.self.now.log in
    let h = so_far told in
    let took = c.in-Ok.ensures.ok h.tells in
    handed-anew of first.log.device start over old.device h (kept_line line) (lines_of_database f.db f.numbering f.stamps terms) text
    (step-anew of first.log.device start over line f terms text refusal p c.in-Ok.ensures.readable) c.make_anew.new.log c.hand_over_alone.new.self.log took.any_moment took.lines_are took.shown (omega (arith, took.failures))
    (λ now. absurd (c.in-Ok.ensures.no_new h.tells now))
    (c.in_ok-hand_over_alone-in-Ok.ensures.ok took.tells)

pub returns-in_ok-hand_over_alone-in-Err-Kept-clause-renewed : goal.returns-in_ok-hand_over_alone-in-Err-Kept-clause-renewed
returns-in_ok-hand_over_alone-in-Err-Kept-clause-renewed g c = λ first start over line so_far p told.
    let D = g.D.Device in
    let of = D in
    let f = c.args.forgotten.now.forgetting.now in
    let terms = c.args.forgotten.now.terms in
    let text = c.args.forgotten.now.text.now in
    let refusal = c.args.forgotten.now.refusal.now in
    let old = c.args.self.now.log in
    let mid = c.make_anew.new.log in
    let h = so_far told in
    let kept =
    subst (λ fault. FailsToRenew fault of old mid (lines_of_database f.db f.numbering f.stamps terms)) c.in-Err-Kept.field-0-is (c.in-Err-Kept.ensures.err h.tells) in
    let keeps = kept.0 in
    let lines : List (List ℕ) = logged (D.seen old.device) in
    let new : List (List ℕ) = log_after (logged (D.seen first.log.device)) start over in
    handed-anew of first.log.device start over old.device h (unlogged_line line) new refusal (step-refused of first.log.device start over line f terms text refusal p) mid
    c.hand_over_alone-in-Err-Kept.new.self.log
    (moments.weaker D.moment D.left_since old.device mid.device (Keeps lines (D.shown old.device)) (KeepsEither lines new (D.shown old.device)) keeps.any_moment (λ left q. inl q))
    (ap logged keeps.seen ∙ h.lines_are) keeps.shown (omega (arith, kept.1))
    (subst (λ fault. LeavesNoNewFile D.has_new_file D.failures (failures_by fault) old.device mid.device) c.in-Err-Kept.field-0-is (c.in-Err-Kept.ensures.no_new_err h.tells)) (c.in_ok-hand_over_alone-in-Err-Kept.ensures.ok keeps.tells)

pub returns-in-Err-Memory-clause-renewed : goal.returns-in-Err-Memory-clause-renewed
returns-in-Err-Memory-clause-renewed g c = λ first start over line so_far p told.
    let D = g.D.Device in
    let of = D in
    let f = c.args.forgotten.now.forgetting.now in
    let terms = c.args.forgotten.now.terms in
    let old = c.args.self.now.log in
    let after = c.make_anew.new.log in
    let h = so_far told in
    handed-kept of first.log.device start over old after h
    (subst (λ fault. FailsToRenew fault of old after (lines_of_database f.db f.numbering f.stamps terms)) c.in-Err-Memory.field-0-is (c.in-Err-Memory.ensures.err h.tells))
    (subst (λ fault. LeavesNoNewFile D.has_new_file D.failures (failures_by fault) old.device after.device) c.in-Err-Memory.field-0-is (c.in-Err-Memory.ensures.no_new_err h.tells))

pub returns-in-Err-Lost-clause-stopped : goal.returns-in-Err-Lost-clause-stopped
returns-in-Err-Lost-clause-stopped g c = λ first start over line so_far p. (
  kept_line line,
  refl,
  λ more told.
      let D = g.D.Device in
      let of = D in
      let f = c.args.forgotten.now.forgetting.now in
      let terms = c.args.forgotten.now.terms in
      let text = c.args.forgotten.now.text.now in
      let refusal = c.args.forgotten.now.refusal.now in
      let old = c.args.self.now.log in
      let h = so_far told in
      lost-anew of first.log.device start over old.device h (kept_line line) (lines_of_database f.db f.numbering f.stamps terms) text
      (step-anew of first.log.device start over line f terms text refusal p (c.make_anew.ensures.readable_lost (c.in-Err-Lost.is ∙ ap Err c.in-Err-Lost.field-0-is))) old
      c.make_anew.new.log more refl refl
      (subst (λ fault. FailsToRenew fault of old c.make_anew.new.log (lines_of_database f.db f.numbering f.stamps terms)) c.in-Err-Lost.field-0-is (c.in-Err-Lost.ensures.err h.tells))
      (subst (λ fault. LeavesNoNewFile D.has_new_file D.failures (failures_by fault) old.device c.make_anew.new.log.device) c.in-Err-Lost.field-0-is (c.in-Err-Lost.ensures.no_new_err h.tells)),
)
