-- Further bytes are taken.
use Rattle.std.proofs.Common.{◌-◌, drop, length, length-drop, length-take, refl, arith}
use Rattle.tt_commands.proofs.ResultLemmas.{on_err}
use Rattle.tt_lines.proofs.RunningLemmas.{takes-nothing, takes-more, stops-more}
use Rattle.tt_lines.proofs.run.Run.take.Goals as goal

pub loop-from-init : goal.loop-from-init
loop-from-init g c = record {
  within = omega arith;
  calls = omega arith;
  ready = c.requires.ready;
  taken = takes-nothing _ _ _ c.args.self.now;
}

pub loop-from-preserved : goal.loop-from-preserved
loop-from-preserved g c =
    let l = c.loop-from in
    let bytes = c.args.bytes.now in
    let taken = c.in_ok-extent.ensures in
    record {
      within = omega (arith, l.invariant.within, taken.within, length-take (length bytes - l.from) (drop l.from bytes), length-drop l.from bytes);
      calls = omega (arith, l.invariant.calls, taken.calls);
      ready = taken.ready;
      taken = takes-more _ _ _ _ _ bytes l.from c.in_ok-extent.extent.taken _ c.args.self.now l.self c.take_some.new.self l.invariant.taken taken.ok refl;
    }

pub returns-in_err-extent-clause-err : goal.returns-in_err-extent-clause-err
returns-in_err-extent-clause-err g c =
    let l = c.loop-from in
    on_err c.from_residual.result (stops-more _ _ _ _ _ _ c.args.bytes.now l.from c.args.self.now l.self l.invariant.taken c.in_err-extent.ensures.err)
