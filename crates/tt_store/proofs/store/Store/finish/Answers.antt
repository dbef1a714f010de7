-- The outcome is that of the switch.
use Rattle.std.proofs.Common.{◌∙◌}
use Rattle.tt_store.proofs.PublicLemmas.{finished}
use Rattle.tt_store.proofs.store.Store.finish.Goals as goal

pub returns-in-Ok-clause-finished : goal.returns-in-Ok-clause-finished
returns-in-Ok-clause-finished g c =
    finished g.L.Naming.tables g.L.Naming.limits c.args.worker.now c.publish.new.worker c.in-Ok.outcome c.finished_of.result c.in-Ok.ensures
    c.finished_of.ensures.outcome (c.finished_of.ensures.place ∙ c.seen.ensures.count)
