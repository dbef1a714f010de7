-- The next content at a time lists the next side at it.
use Rattle.tt_generations.specs.TwoGenerations.{next_content_at}
use Rattle.tt_generations.proofs.GenerationsLemmas.{lists-next_at}
use Rattle.tt_generations.proofs.generations.Generations.preview_at.Goals as goal

pub returns : goal.returns
returns c =
    let G = c.args.self.now in
    let table = c.args.select.now.table in
    c.in_ok-reply.ensures (next_content_at G.phase G.slots c.args.time table)
    (lists-next_at G.catalog G.phase G.slots c.args.time table c.done.ensures.within c.requires)
