-- Lines are taken together, and then one more.
use Rattle.std.proofs.Common.{refl}
use Rattle.tt_commands.proofs.ResultLemmas.{on_err}
use Rattle.tt_lines.proofs.RunningLemmas.{takes-more, stops-more}
use Rattle.tt_lines.proofs.run.Run.take_some.Goals as goal

pub returns-in_err-more-clause-err : goal.returns-in_err-more-clause-err
returns-in_err-more-clause-err g c =
    on_err c.from_residual-in_err-more.result
    (stops-more _ _ _ _ _ _ c.args.bytes.now c.in_ok-extent.extent.taken c.args.self.now c.take_together.new.self c.in_ok-extent.ensures.ok c.in_err-more.ensures.err)

pub returns-clause-ok : goal.returns-clause-ok
returns-clause-ok g c =
    takes-more _ _ _ _ _ c.args.bytes.now c.in_ok-extent.extent.taken c.in_ok-more.more _ c.args.self.now c.take_together.new.self c.take_line-2.new.self
    c.in_ok-extent.ensures.ok c.in_ok-more.ensures.ok refl
