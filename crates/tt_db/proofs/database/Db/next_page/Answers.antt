-- The next generation's rows are stored under their keys.
use Rattle.std.proofs.Common.{◌≡◌, ap, subst, ◌∙◌}
use Rattle.tt_values.specs.Effect.{answer_of}
use Rattle.tt_generations.specs.TwoGenerations.{done_of, next_content_at}
use Rattle.tt_generations.specs.Pages.{page_of_select}
use Rattle.tt_db.specs.State.{after, next_at}
use Rattle.tt_db.specs.Database.{Database, preview_for}
use Rattle.tt_db.specs.Pages.{first_rows, rows_in}
use Rattle.tt_db.proofs.CurrentLemmas.{next_content-is}
use Rattle.tt_db.proofs.KeyLemmas.{IsKeyedContent-next, RowsHaveRisingKeys-next}
use Rattle.tt_db.proofs.PageLemmas.{page_of_select-keyed, page-rises}
use Rattle.tt_db.proofs.database.Db.next_page.Goals as goal

page_is : (c : goal.In_ok-page)
    → let S = after c.self.inside.parts.limits c.self.inside.parts.history in c.in_ok-page.page ≡ first_rows c.args.after c.args.most (rows_in (answer_of c.args.select.now (next_at S (done_of S.phase))))
page_is c =
    let d = c.self.inside.parts in
    let G = d.generations in
    let is = c.self.invariant in
    let q = c.args.select.now in
    let S = after d.limits d.history in
    c.in_ok-page.ensures ∙ ap (page_of_select q c.args.after c.args.most) (next_content-is G.phase G.slots)
    ∙ (λ i. page_of_select q c.args.after c.args.most (next_content_at (is.phase i) (is.slots i) (done_of (is.phase i))))
    ∙ page_of_select-keyed q c.args.after c.args.most (next_at S (done_of S.phase)) (IsKeyedContent-next G.catalog d.limits d.history is.catalog is.legal)

pub returns-clause-right : goal.returns-clause-right
returns-clause-right c =
    subst (λ (db : Database). c.in_ok-page.page ≡ first_rows c.args.after c.args.most (rows_in (preview_for db c.args.select.now))) c.self.view_is (page_is c)

pub returns-clause-keyed : goal.returns-clause-keyed
returns-clause-keyed c =
    let d = c.self.inside.parts in
    let q = c.args.select.now in
    let S = after d.limits d.history in
    page-rises c.args.after c.args.most (answer_of q (next_at S (done_of S.phase))) c.in_ok-page.page
    (RowsHaveRisingKeys-next d.generations.catalog d.limits d.history q c.self.invariant.catalog c.self.invariant.legal) (page_is c)
