-- How the run ends, and what it has taken after each read.
use Rattle.std.proofs.Common.{◌≡◌, ◌++◌, [], take, append-nil, ap, subst, ◌∙◌, arith}
use Rattle.std.specs.Io.KnownBytes.{Consumes}
use Rattle.std.proofs.KnownBytes.{Consumes-nil, Consumes-kept, Consumes-trans}
use Rattle.tt_session.specs.Run.{calls_of}
use Rattle.tt_lines.specs.declared.run.SessionFault.TheVariants as faults
use Rattle.tt_commands.proofs.ResultLemmas.{on_ok, err_at}
use Rattle.tt_lines.proofs.RunningLemmas.{rests-on}
use Rattle.tt_lines.proofs.EndingLemmas.{fails-reading, fails-within, hands-over-all, fails-last}
use Rattle.tt_lines.proofs.run.Run.serve.Goals as goal

pub loop-total-init : goal.loop-total-init
loop-total-init g c = record {
  some = c.requires.some;
  few = c.requires.few;
  within = omega (arith, c.calls-total.ensures, c.requires.calls);
  calls = omega (arith, c.calls-total.ensures);
  ready = c.requires.ready;
  served = record { bytes = []; consumed = Consumes-nil _; rests = λ first start rests. rests };
}

pub loop-total-preserved : goal.loop-total-preserved
loop-total-preserved g c =
    let l = c.loop-total in
    let buffer = c.read.new.buffer in
    let count = c.in-Ok.count in
    let served = l.invariant.served in
    let read = c.in-Ok.ensures in
    record {
      some = omega (arith, l.invariant.some, c.read.auto.buffer);
      few = omega (arith, l.invariant.few, c.read.auto.buffer);
      within = omega (arith, l.invariant.few, c.read.auto.buffer, c.in-Ok.ensures.bound.0, c.loop-total-test.true);
      calls = omega (arith, l.invariant.calls, ap calls_of c.in-Ok.ensures.session, c.in-Ok-answer_lines.ensures.calls, c.in-Ok.ensures.bound.1);
      ready = c.in-Ok-answer_lines.ensures.ready;
      served = record {
        bytes = served.bytes ++ take count buffer;
        consumed = Consumes-trans _ _ _ served.bytes (take count buffer) served.consumed c.in-Ok.ensures.consumed;
        rests = λ first start rests.
            c.in-Ok-answer_lines.ensures.ok first start served.bytes
            (rests-on _ _ _ _ start served.bytes l.self c.read.new.self (served.rests first start rests) read.session read.line read.out read.lines);
      };
    }

pub returns-in_default-clause-fault : goal.returns-in_default-clause-fault
returns-in_default-clause-fault g c = λ first start rests.
    let l = c.loop-total in
    let served = l.invariant.served in
    fails-reading _ _ _ _ _ _ start served.bytes l.self (Consumes-kept _ _ _ _ served.consumed c.in_default.ensures.unchanged) (served.rests first start rests)

pub returns-clause-fault : goal.returns-clause-fault
returns-clause-fault g c = λ first start rests.
    let l = c.loop-total in
    let served = l.invariant.served in
    fails-reading _ _ _ _ _ _ start served.bytes l.self served.consumed (served.rests first start rests)

pub returns-in_default-answer_lines-clause-fault : goal.returns-in_default-answer_lines-clause-fault
returns-in_default-answer_lines-clause-fault g c = λ first start rests.
    let l = c.loop-total in
    let piece = take c.in-Ok.count c.read.new.buffer in
    let served = l.invariant.served in
    let read = c.in-Ok.ensures in
    let now = rests-on _ _ _ _ start served.bytes l.self c.read.new.self (served.rests first start rests) read.session read.line read.out read.lines in
    fails-within _ _ _ _ _ start (served.bytes ++ piece) (Consumes-trans _ _ _ served.bytes piece served.consumed read.consumed)
    (c.in_default-answer_lines.ensures.err first start served.bytes now)

pub returns-then-count-eq0-clause-ok : goal.returns-then-count-eq0-clause-ok
returns-then-count-eq0-clause-ok g c =
    let l = c.loop-total in
    let buffer = c.read.new.buffer in
    let served = l.invariant.served in
    let read = c.in-Ok.ensures in
    let none : served.bytes ++ take c.in-Ok.count buffer ≡ served.bytes = ap (λ n. served.bytes ++ take n buffer) c.if-count-eq0.true ∙ append-nil served.bytes in
    let consumed = Consumes-trans _ _ _ served.bytes (take c.in-Ok.count buffer) served.consumed read.consumed in
    on_ok c.end.result (λ ends first start rests.
    hands-over-all _ _ served.bytes _ (subst (Consumes _ _) none consumed) (read.end c.if-count-eq0.true l.invariant.some)
    (ends first start served.bytes (rests-on _ _ _ _ start served.bytes l.self c.read.new.self (served.rests first start rests) read.session read.line read.out read.lines))) c.end.ensures.ok

pub returns-then-count-eq0-clause-fault : goal.returns-then-count-eq0-clause-fault
returns-then-count-eq0-clause-fault g c =
    let l = c.loop-total in
    let buffer = c.read.new.buffer in
    let served = l.invariant.served in
    let read = c.in-Ok.ensures in
    let none : served.bytes ++ take c.in-Ok.count buffer ≡ served.bytes = ap (λ n. served.bytes ++ take n buffer) c.if-count-eq0.true ∙ append-nil served.bytes in
    let consumed = Consumes-trans _ _ _ served.bytes (take c.in-Ok.count buffer) served.consumed read.consumed in
    err_at _ c.end.result faults.Write c.end.ensures.fault c.end.ensures.err (λ stops first start rests.
    fails-last _ _ served.bytes _ (subst (Consumes _ _) none consumed) (read.end c.if-count-eq0.true l.invariant.some)
    (stops first start served.bytes (rests-on _ _ _ _ start served.bytes l.self c.read.new.self (served.rests first start rests) read.session read.line read.out read.lines)))
