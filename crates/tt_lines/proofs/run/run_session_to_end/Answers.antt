-- A session begins with nothing read, and its outlet is the writer.
use Rattle.tt_session.specs.declared.session.Session.TheVariants.{NotOpen}
use Rattle.tt_lines.proofs.EndingLemmas.{answers-all, ends-early, writes-none}
use Rattle.tt_lines.proofs.run.run_session_to_end.Goals as goal

pub returns-in-Ok-clause-ok : goal.returns-in-Ok-clause-ok
returns-in-Ok-clause-ok g c =
    answers-all _ _ _ _ (c.in-Ok.ensures.ok c.args.writer.now (writes-none (g.W.Write.contents c.args.writer.now) NotOpen))

pub returns-clause-fault : goal.returns-clause-fault
returns-clause-fault g c =
    ends-early _ _ _ _ _ (c.in-Err.ensures.fault c.args.writer.now (writes-none (g.W.Write.contents c.args.writer.now) NotOpen))
