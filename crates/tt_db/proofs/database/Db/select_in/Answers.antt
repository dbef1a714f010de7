-- The rows of each generation that can be read are stored under their keys.
use Rattle.std.proofs.Common.{◌≡◌, Some, sym, ap, subst, ◌∙◌}
use Rattle.std.specs.Option.{option_copied, option_map}
use Rattle.tt_generations.specs.TwoGenerations.{TwoGenerations}
use Rattle.tt_db.specs.State.{after, slots_in}
use Rattle.tt_db.specs.Database.{Database, state_of}
use Rattle.tt_db.specs.RightAnswers.{RowsHaveRisingKeys}
use Rattle.tt_db.proofs.KeyLemmas.{RowsHaveRisingKeys-in}
use Rattle.tt_db.proofs.database.Db.select_in.Goals as goal

pub returns-in-Ok-clause-keyed : goal.returns-in-Ok-clause-keyed
returns-in-Ok-clause-keyed c =
    let db = c.self.inside.parts in
    let W = c.in-Some.generations.now.slots in
    let is : slots_in (after db.limits db.history) c.args.generation ≡ Some W =
    ap (λ (d : Database). slots_in (state_of d) c.args.generation) c.self.view_is ∙ sym c.generations_of.ensures.slots
    ∙ ap (λ r. option_map (λ (G : TwoGenerations). G.slots) (option_copied r)) c.in-Some.is in
    subst RowsHaveRisingKeys (sym c.in-Ok.ensures)
    (RowsHaveRisingKeys-in db.generations.catalog db.limits db.history c.args.generation W c.args.select.now c.args.time c.self.invariant.catalog c.self.invariant.legal is)
