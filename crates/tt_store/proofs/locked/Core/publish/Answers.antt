-- Without events nothing is published.
use Rattle.std.proofs.Common.{Option, subst}
use Rattle.tt_store.specs.declared.call.Draft.{Draft}
use Rattle.tt_store.specs.Drafts.{IsDraft}
use Rattle.tt_store.proofs.DraftLemmas.{publishes_nothing}
use Rattle.tt_store.proofs.locked.Core.publish.Goals as goal

pub returns-in-Ok-None : goal.returns-in-Ok-None
returns-in-Ok-None g c =
    publishes_nothing g.L.Naming.tables g.L.Naming.limits c.args.call.now c.args.worker.now c.catch_up.new.worker c.catch_up.ensures.looks
    (subst (λ (d : Option Draft). IsDraft g.L.Naming.tables g.L.Naming.limits c.args.call.now c.catch_up.new.worker d) c.in-Ok-None.field-0-is c.in-Ok-None.ensures.drafted)
