-- The lines are repeated piece by piece, until there are no more.
use Rattle.std.proofs.Common.{◌≡◌, ◌++◌, [], take, length, length-take, length-take-le, length-append, append_assoc, refl, sym, ap, subst, ◌∙◌, arith}
use Rattle.tt_log.specs.Lines.{text}
use Rattle.tt_log.specs.Reading.{unread}
use Rattle.tt_log.proofs.ReadingLemmas.{text-le}
use Rattle.tt_durable.specs.RestoringRun.{FailsIn}
use Rattle.tt_durable.proofs.RestoringLemmas.{given-all, restores-if, no-line-if, no-line}
use Rattle.tt_durable.proofs.restoring.restore.Goals as goal

pub loop-total-init : goal.loop-total-init
loop-total-init g c = record {
  some = c.requires.some;
  few = c.requires.few;
  within = omega arith;
  calls = omega (arith, c.new-restoring.ensures.calls);
  count = omega (arith, c.new-restoring.ensures.count);
  device = refl;
  reading = c.requires.reading;
  room = λ told. omega (arith, ap length (c.requires.unread told), text-le (g.D.Device.seen c.args.log.now.device));
  so_far = record { given = []; restoring = c.new-restoring.ensures.restoring; parts = c.requires.unread };
}

pub loop-total-preserved : goal.loop-total-preserved
loop-total-preserved g c =
    let l = c.loop-total in
    let so_far = l.invariant.so_far in
    let piece = take c.in-Ok.count c.read.new.buffer in
    let taken = c.in_default-take.ensures in
    let read = c.in-Ok.ensures in
    record {
      some = omega (arith, l.invariant.some, c.read.auto.buffer);
      few = omega (arith, l.invariant.few, c.read.auto.buffer);
      within = omega (arith, l.invariant.few, c.read.auto.buffer, read.within, c.loop-total-test.true);
      calls = omega (arith, l.invariant.calls, taken.calls, read.within, length-take c.in-Ok.count c.read.new.buffer);
      count = omega (arith, l.invariant.count, taken.count, read.within, length-take c.in-Ok.count c.read.new.buffer);
      device = c.read.ensures.device ∙ l.invariant.device;
      reading = λ told. c.read.ensures.reading (subst g.D.Device.tells (sym l.invariant.device) told);
      room = λ told.
          omega (
            arith,
            l.invariant.room told,
            read.within,
            length-take c.in-Ok.count c.read.new.buffer,
            length-take-le c.in-Ok.count c.read.new.buffer read.within,
            length-append piece (unread g.D.Device.seen c.read.new.self),
            ap length (read.bytes (subst g.D.Device.tells (sym l.invariant.device) told)),
          );
      so_far = record {
        given = so_far.given ++ piece;
        restoring = taken.ok so_far.given so_far.restoring;
        parts = λ told.
            append_assoc so_far.given piece _ ∙ ap (λ r. so_far.given ++ r) (read.bytes (subst g.D.Device.tells (sym l.invariant.device) told))
            ∙ so_far.parts told;
      };
    }

pub returns-then-count-eq0-clause-restores : goal.returns-then-count-eq0-clause-restores
returns-then-count-eq0-clause-restores g c =
    let l = c.loop-total in
    let so_far = l.invariant.so_far in
    let seen = g.D.Device.seen in
    let read = c.in-Ok.ensures in
    let tells = g.D.Device.tells c.args.log.now.device in
    let whole : tells → so_far.given ≡ text (seen c.args.log.now.device) =
    λ told.
    let now = subst g.D.Device.tells (sym l.invariant.device) told in
    let end = read.end now c.if-count-eq0.true (omega (arith, l.invariant.some, c.read.auto.buffer)) in
    given-all so_far.given (unread seen l.log) (unread seen c.read.new.self) c.read.new.buffer (text (seen c.args.log.now.device)) c.in-Ok.count (so_far.parts told) (read.bytes now) c.if-count-eq0.true end in
    restores-if tells (seen c.args.log.now.device) so_far.given l.restoring c.finish.result so_far.restoring whole c.finish.ensures.session c.finish.ensures.whole

pub returns-then-count-eq0-clause-line : goal.returns-then-count-eq0-clause-line
returns-then-count-eq0-clause-line g c =
    let l = c.loop-total in
    let so_far = l.invariant.so_far in
    let seen = g.D.Device.seen in
    let read = c.in-Ok.ensures in
    let tells = g.D.Device.tells c.args.log.now.device in
    let whole : tells → so_far.given ≡ text (seen c.args.log.now.device) =
    λ told.
    let now = subst g.D.Device.tells (sym l.invariant.device) told in
    let end = read.end now c.if-count-eq0.true (omega (arith, l.invariant.some, c.read.auto.buffer)) in
    given-all so_far.given (unread seen l.log) (unread seen c.read.new.self) c.read.new.buffer (text (seen c.args.log.now.device)) c.in-Ok.count (so_far.parts told) (read.bytes now) c.if-count-eq0.true end in
    no-line-if tells (seen c.args.log.now.device) so_far.given l.restoring c.finish.result so_far.restoring whole c.finish.ensures.line

pub returns-in-Err-clause-line : goal.returns-in-Err-clause-line
returns-in-Err-clause-line g c = λ n is told.
    let l = c.loop-total in
    let so_far = l.invariant.so_far in
    let piece = take c.in-Ok.count c.read.new.buffer in
    let read = c.in-Ok.ensures in
    let fails = subst (λ e. FailsIn (so_far.given ++ piece) e) is (c.in-Err.ensures.err so_far.given so_far.restoring) in
    no-line (g.D.Device.seen c.args.log.now.device) (so_far.given ++ piece) _ n fails
    (append_assoc so_far.given piece _ ∙ ap (λ r. so_far.given ++ r) (read.bytes (subst g.D.Device.tells (sym l.invariant.device) told)) ∙ so_far.parts told)
