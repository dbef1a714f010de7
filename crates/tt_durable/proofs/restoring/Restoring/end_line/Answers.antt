-- A line that is too long is none of a log, and the others are read.
use Rattle.std.proofs.Common.{false, true, refl, sym, subst, ◌∙◌}
use Rattle.tt_session.specs.Run.{begun}
use Rattle.tt_durable.specs.RestoringRun.{IsNextOrNot}
use Rattle.tt_durable.proofs.RestoringLemmas.{restoring-next, fails-at, fails-long}
use Rattle.tt_durable.proofs.restoring.Restoring.end_line.Goals as goal

pub returns-then-is_too_long-clause-err : goal.returns-then-is_too_long-clause-err
returns-then-is_too_long-clause-err c = λ given p. fails-long given c.args.self.now p _ refl (sym (c.is_too_long.ensures p.left p.line) ∙ c.if-is_too_long.true)

pub returns-then-not-branch-clause-err : goal.returns-then-not-branch-clause-err
returns-then-not-branch-clause-err c = λ given p.
    let old = c.args.self.now in
    let new = c.read_next.new in
    let same = c.in-Some.ensures p.left p.line (sym (c.is_too_long.ensures p.left p.line) ∙ c.if-is_too_long.false) in
    let other = subst (λ b. IsNextOrNot b (begun old.session) old.ground_left c.in-Some.line.now (begun new.session) new.ground_left) c.if-not-branch.true c.in_ok-read_next.ensures.next in
    fails-at given old p _ refl (subst (λ l. IsNextOrNot false (begun old.session) old.ground_left l (begun new.session) new.ground_left) same other)

pub returns-clause-ok : goal.returns-clause-ok
returns-clause-ok c = λ given p.
    let old = c.args.self.now in
    let new = c.read_next.new in
    let same = c.in-Some.ensures p.left p.line (sym (c.is_too_long.ensures p.left p.line) ∙ c.if-is_too_long.false) in
    let next = subst (λ b. IsNextOrNot b (begun old.session) old.ground_left c.in-Some.line.now (begun new.session) new.ground_left) c.if-not-branch.false c.in_ok-read_next.ensures.next in
    restoring-next given old _ p (subst (λ l. IsNextOrNot true (begun old.session) old.ground_left l (begun new.session) new.ground_left) same next) c.clear-2.ensures refl
