-- Further bytes are taken.
use Rattle.std.proofs.Common.{◌-◌, ◌++◌, length, take, drop, take_all, append-nil, length-take, length-drop, refl, sym, subst, arith}
use Rattle.tt_durable.specs.RestoringRun.{IsRestoring}
use Rattle.tt_durable.proofs.RestoringLemmas.{restoring-more, taken-line, taken-rest, fails-within}
use Rattle.tt_durable.proofs.restoring.Restoring.take.Goals as goal

pub loop-from-init : goal.loop-from-init
loop-from-init c = record {
  within = omega arith;
  calls = omega arith;
  count = omega arith;
  restoring = λ given p. subst (λ l. IsRestoring l c.args.self.now) (sym (append-nil given)) p;
}

pub loop-from-preserved : goal.loop-from-preserved
loop-from-preserved c =
    let l = c.loop-from in
    let bytes = c.args.bytes.now in
    let rest = take (length bytes - l.from) (drop l.from bytes) in
    let end = c.in-Some.end in
    let done = c.in_default-end_line.ensures in
    let longer = record l.self { line = c.extend-in-loop-from.new.self } in
    record {
      within = omega (arith, l.invariant.within, c.in-Some.ensures.within, length-take (length bytes - l.from) (drop l.from bytes), length-drop l.from bytes);
      calls = omega (arith, l.invariant.calls, done.calls);
      count = omega (arith, l.invariant.count, done.count);
      restoring = λ given p.
          subst (λ g. IsRestoring g c.end_line.new.self) (taken-line given bytes l.from end c.in-Some.ensures)
          (done.ok _ (restoring-more (given ++ take l.from bytes) (take end rest) l.self longer (l.invariant.restoring given p) c.in-Some.ensures.before c.extend-in-loop-from.ensures refl refl refl));
    }

pub returns-in_default-clause-ok : goal.returns-in_default-clause-ok
returns-in_default-clause-ok c = λ given p.
    let l = c.loop-from in
    let bytes = c.args.bytes.now in
    let rest = take (length bytes - l.from) (drop l.from bytes) in
    let longer = record l.self { line = c.extend.new.self } in
    subst (λ g. IsRestoring g longer) (taken-rest given bytes l.from)
    (restoring-more (given ++ take l.from bytes) rest l.self longer (l.invariant.restoring given p) c.in_default.ensures c.extend.ensures refl refl refl)

pub returns-clause-ok : goal.returns-clause-ok
returns-clause-ok c = λ given p.
    let l = c.loop-from in
    let bytes = c.args.bytes.now in
    subst (λ g. IsRestoring (given ++ g) l.self) (take_all l.from bytes (omega (arith, c.loop-from-test.false))) (l.invariant.restoring given p)

pub returns-in-Err-clause-err : goal.returns-in-Err-clause-err
returns-in-Err-clause-err c = λ given p.
    let l = c.loop-from in
    let bytes = c.args.bytes.now in
    let rest = take (length bytes - l.from) (drop l.from bytes) in
    let end = c.in-Some.end in
    let longer = record l.self { line = c.extend-in-loop-from.new.self } in
    fails-within given bytes l.from end c.in-Err.fault c.in-Some.ensures
    (c.in-Err.ensures.err _ (restoring-more (given ++ take l.from bytes) (take end rest) l.self longer (l.invariant.restoring given p) c.in-Some.ensures.before c.extend-in-loop-from.ensures refl refl refl))
