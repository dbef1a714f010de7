-- The rows of each generation that can be read are stored under their keys.
use Rattle.std.proofs.Common.{◌≡◌, Some, Ok, rules, arith, sym, ap, ◌∙◌}
use Rattle.std.proofs.lemmas.Grind.{common_steps}
use Rattle.std.specs.Option.{option_copied, option_map}
use Rattle.tt_values.specs.RowWrites.{content_of}
use Rattle.tt_values.specs.Effect.{answer_of}
use Rattle.tt_generations.specs.TwoGenerations.{TwoGenerations}
use Rattle.tt_db.specs.State.{after, slots_in}
use Rattle.tt_db.specs.Database.{Database, state_of, right_answer_in}
use Rattle.tt_db.specs.Pages.{first_rows, rows_in, page_of_answer}
use Rattle.tt_db.proofs.KeyLemmas.{IsKeyedContent-in, RowsHaveRisingKeys-in}
use Rattle.tt_db.proofs.PageLemmas.{page_of_select-keyed, page-rises}
use Rattle.tt_db.proofs.database.Db.page_in.Goals as goal

slots_are : (c : goal.In-Ok) → slots_in (after c.self.inside.parts.limits c.self.inside.parts.history) c.args.generation ≡ Some c.in-Some.generations.now.slots
slots_are c =
    ap (λ (d : Database). slots_in (state_of d) c.args.generation) c.self.view_is ∙ sym c.generations_of.ensures.slots
    ∙ ap (λ r. option_map (λ (G : TwoGenerations). G.slots) (option_copied r)) c.in-Some.is

page_is : (c : goal.In-Ok) → c.in-Ok.page ≡ first_rows c.args.after c.args.most (rows_in (answer_of c.args.select.now (content_of c.in-Some.generations.now.slots c.args.time)))
page_is c =
    let db = c.self.inside.parts in
    let W = c.in-Some.generations.now.slots in
    c.in-Ok.ensures
    ∙ page_of_select-keyed c.args.select.now c.args.after c.args.most (content_of W c.args.time)
    (IsKeyedContent-in db.generations.catalog db.limits db.history c.args.generation W c.args.time c.self.invariant.catalog c.self.invariant.legal (slots_are c))

pub returns-in-Ok-clause-right : goal.returns-in-Ok-clause-right
returns-in-Ok-clause-right c =
    let db = c.self.inside.parts in
    let W = c.in-Some.generations.now.slots in
    let q = c.args.select.now in
    let is : slots_in (after db.limits db.history) c.args.generation ≡ Some W = slots_are c in
    let right : right_answer_in c.args.self.now c.args.generation q c.args.time ≡ Ok (answer_of q (content_of W c.args.time)) = first_of (search rules, grind (arith, common_steps)) in
    ap (page_of_answer c.args.after c.args.most) right ∙ ap Ok (sym (page_is c))

pub returns-in-Ok-clause-keyed : goal.returns-in-Ok-clause-keyed
returns-in-Ok-clause-keyed c =
    let db = c.self.inside.parts in
    let W = c.in-Some.generations.now.slots in
    let q = c.args.select.now in
    page-rises c.args.after c.args.most (answer_of q (content_of W c.args.time)) c.in-Ok.page
    (RowsHaveRisingKeys-in db.generations.catalog db.limits db.history c.args.generation W q c.args.time c.self.invariant.catalog c.self.invariant.legal (slots_are c)) (page_is c)
