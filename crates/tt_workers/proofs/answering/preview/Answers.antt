-- a preview is answered by what the worker has then seen
use Rattle.tt_db.specs.State.{after}
use Rattle.tt_workers.proofs.CallLemmas.{right_preview_in, made_preview}
use Rattle.tt_workers.proofs.answering.preview.Goals as goal

pub returns-clause-made : goal.returns-clause-made
returns-clause-made g c =
    let right = right_preview_in g.L.Naming.tables (after g.L.Naming.limits c.preview-answer.new.self.seen) c.args.select.now c.args.worker.now c.preview-answer.new.self
    c.preview-answer.result c.in_ok-what.what c.requires.accepted c.preview-answer.ensures.right c.in_ok-what.ensures.answer in
    made_preview g.L.Naming.limits c.args.select.now c.args.worker.now c.preview-answer.new.self c.in_ok-what.what c.seen.result c.preview-answer.ensures.looks c.seen.ensures.count right
