-- The content at a time lists the current side.
use Rattle.tt_generations.proofs.GenerationsLemmas.{lists-current}
use Rattle.tt_values.specs.RowWrites.{content_of}
use Rattle.tt_generations.proofs.generations.Generations.page_at.Goals as goal

pub returns : goal.returns
returns c =
    let W = c.args.self.now.slots in
    let table = c.args.select.now.table in
    c.in_ok-page.ensures (content_of W c.args.time table) (lists-current W c.args.time table)
