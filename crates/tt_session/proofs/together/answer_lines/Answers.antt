-- One more line is answered, or none.
use Rattle.std.proofs.Common.{◌+◌, ap, arith}
use Rattle.tt_session.specs.declared.together.Extent.{Extent}
use Rattle.tt_session.specs.declared.session.Session.TheVariants.{Open}
use Rattle.tt_session.proofs.TogetherLemmas.{front-nil, front-more}
use Rattle.tt_session.proofs.together.answer_lines.Goals as goal

pub loop-taken-init : goal.loop-taken-init
loop-taken-init c = front-nil c.args.bytes.now (Open c.args.session.now) c.args.out.now.items c.args.workspace.now.lines

pub returns-in-Ok-eq0 : goal.returns-in-Ok-eq0
returns-in-Ok-eq0 c =
    let l = c.loop-taken in
    front-more c.args.bytes.now l.taken _ c.of.result.taken (Open c.args.session.now) (Open l.session) (Open c.answer_first.new.session) c.args.out.now.items l.out.items c.answer_first.new.out.items
    c.args.workspace.now.lines l.workspace.lines c.answer_first.new.workspace.lines
    l.invariant c.in-Ok-eq0.ensures.answered (omega (arith, c.in-Ok-eq0.field-0-is, c.in-Ok-eq0.field-0-test, ap (λ (e : Extent). e.taken) c.of.ensures))

pub loop-taken-preserved : goal.loop-taken-preserved
loop-taken-preserved c =
    let l = c.loop-taken in
    front-more c.args.bytes.now l.taken _ (l.taken + c.in-Ok.count) (Open c.args.session.now) (Open l.session) (Open c.answer_first.new.session) c.args.out.now.items l.out.items c.answer_first.new.out.items
    c.args.workspace.now.lines l.workspace.lines c.answer_first.new.workspace.lines
    l.invariant c.in-Ok.ensures.answered (ap (λ n. l.taken + n) c.in-Ok.count-is)
