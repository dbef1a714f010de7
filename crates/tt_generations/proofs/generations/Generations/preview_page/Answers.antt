-- The next content lists the next side at the last slot done.
use Rattle.std.proofs.Common.{subst}
use Rattle.tt_versions.specs.declared.side.Side.TheVariants.{Next}
use Rattle.tt_generations.specs.TwoGenerations.{rows_on, next_content_of}
use Rattle.tt_generations.specs.Pages.{IsPageOn}
use Rattle.tt_generations.proofs.GenerationsLemmas.{lists-next}
use Rattle.tt_generations.proofs.generations.Generations.preview_page.Goals as goal

pub returns : goal.returns
returns c =
    let G = c.args.self.now in
    let q = c.args.select.now in
    let is = subst (λ time. IsPageOn c.in_ok-page.page q c.args.after c.args.most (rows_on Next G q.table) time) c.done.ensures.done c.in_ok-page.ensures in
    is (next_content_of G q.table) (lists-next G.catalog G.phase G.slots q.table c.done.ensures.within)
