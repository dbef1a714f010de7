use Rattle.std.proofs.Common.{◌++◌, ◌<◌, ℕ, List, inl, inr, length, take, sym, ◌∙◌, ap, subst, arith}
use Rattle.tt_log.specs.Lines.{logged, joined}
use Rattle.tt_log.specs.Device.{NowShowing}
use Rattle.tt_log.specs.Log.{IsAtRest, IsUnclean, KeepsFirst, KeepsAnswered, LeavesUnclean}
use Rattle.tt_log.proofs.MomentLemmas.{weaker, goes_on}
use Rattle.tt_log.proofs.UncleanLemmas.{longer-unclean}
use Rattle.tt_log.proofs.log.Log.hand_over.Goals as goal

pub returns-clause-settled : goal.returns-clause-settled
returns-clause-settled g c = λ told.
    let told_1 = c.append.ensures.tells.0 told in
    let s = c.in_ok-append.ensures.settled told in
    let seen = c.hand_over.ensures.seen told_1 in
    record {
      at_rest = subst IsAtRest (sym seen) s.at_rest;
      end = s.end ∙ ap (λ (f : List ℕ). length (joined (logged f))) (sym seen);
      len = s.len ∙ ap length (sym seen);
      durable = λ f left. s.durable f (c.hand_over.ensures.crash told_1 f left) ∙ sym seen;
    }

pub returns-clause-any_moment : goal.returns-clause-any_moment
returns-clause-any_moment g c = λ told.
    let told_1 = c.append.ensures.tells.0 told in
    let old = c.args.self.now.device in
    let mid = c.append.new.self.device in
    let new = c.hand_over.new.self in
    let lines = logged (g.D.Device.seen old) in
    let more = c.args.lines.now in
    let answers = c.args.answers.now in
    let P = KeepsAnswered lines more (g.D.Device.shown old) answers in
    let s = c.in_ok-append.ensures.settled told in
    let first = weaker g.D.Device.moment g.D.Device.left_since old mid (KeepsFirst lines more (g.D.Device.shown old)) P (c.append.ensures.any_moment told) (λ left begun. inl begun) in
    goes_on g.D.Device.moment g.D.Device.left_since old mid new P (NowShowing (g.D.Device.may_leave new) (g.D.Device.shown mid) answers) first (c.hand_over.ensures.time told_1)
    (λ left now. inr (
      ap logged (s.durable left.file (c.hand_over.ensures.crash told_1 left.file now.0)) ∙ c.in_ok-append.ensures.logged told,
      (now.1.0, now.1.1 ∙ ap (λ (sh : List ℕ). sh ++ take now.1.0 answers) (c.append.ensures.shown told)),
    ))

pub returns-in_default-clause-any_moment : goal.returns-in_default-clause-any_moment
returns-in_default-clause-any_moment g c = λ told.
    let told_1 = c.append.ensures.tells.0 told in
    let old = c.args.self.now.device in
    let mid = c.append.new.self.device in
    let new = c.hand_over.new.self in
    let lines = logged (g.D.Device.seen old) in
    let more = c.args.lines.now in
    let answers = c.args.answers.now in
    let P = KeepsAnswered lines more (g.D.Device.shown old) answers in
    let s = c.in_ok-append.ensures.settled told in
    let first = weaker g.D.Device.moment g.D.Device.left_since old mid (KeepsFirst lines more (g.D.Device.shown old)) P (c.append.ensures.any_moment told) (λ left begun. inl begun) in
    goes_on g.D.Device.moment g.D.Device.left_since old mid new P (NowShowing (g.D.Device.may_leave new) (g.D.Device.shown mid) answers) first (c.hand_over.ensures.time told_1)
    (λ left now. inr (
      ap logged (s.durable left.file (c.hand_over.ensures.crash told_1 left.file now.0)) ∙ c.in_ok-append.ensures.logged told,
      (now.1.0, now.1.1 ∙ ap (λ (sh : List ℕ). sh ++ take now.1.0 answers) (c.append.ensures.shown told)),
    ))

-- what a crash leaves doesn't look ended
pub returns-clause-unclean : goal.returns-clause-unclean
returns-clause-unclean g c = λ told.
    let V = g.D.Device in
    let told_1 = c.append.ensures.tells.0 told in
    let mid = c.append.new.self in
    let new = c.hand_over.new.self in
    let s = c.in_ok-append.ensures.settled told in
    let room : length (joined (logged (V.seen mid.device))) < length (V.seen mid.device) = omega (arith, mid.within, s.end, s.len) in
    goes_on V.moment V.left_since c.args.self.now.device mid.device new LeavesUnclean (NowShowing (V.may_leave new) (V.shown mid.device) c.args.answers.now) (c.append.ensures.unclean told) (c.hand_over.ensures.time told_1)
    (λ left now. subst IsUnclean (sym (s.durable left.file (c.hand_over.ensures.crash told_1 left.file now.0))) (longer-unclean (V.seen mid.device) room))

pub returns-in_default-clause-unclean : goal.returns-in_default-clause-unclean
returns-in_default-clause-unclean g c = λ told.
    let V = g.D.Device in
    let told_1 = c.append.ensures.tells.0 told in
    let mid = c.append.new.self in
    let new = c.hand_over.new.self in
    let s = c.in_ok-append.ensures.settled told in
    let room : length (joined (logged (V.seen mid.device))) < length (V.seen mid.device) = omega (arith, mid.within, s.end, s.len) in
    goes_on V.moment V.left_since c.args.self.now.device mid.device new LeavesUnclean (NowShowing (V.may_leave new) (V.shown mid.device) c.args.answers.now) (c.append.ensures.unclean told) (c.hand_over.ensures.time told_1)
    (λ left now. subst IsUnclean (sym (s.durable left.file (c.hand_over.ensures.crash told_1 left.file now.0))) (longer-unclean (V.seen mid.device) room))
