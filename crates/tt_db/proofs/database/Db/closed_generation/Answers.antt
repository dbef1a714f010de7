-- A closed generation is kept with the tables before its switch.
use Rattle.std.proofs.Common.{◌≡◌, ◌==◌, find, ap, subst, ◌∙◌}
use Rattle.std.specs.Option.{option_copied, option_map}
use Rattle.tt_db.specs.State.{ClosedGeneration, after}
use Rattle.tt_db.specs.ClosedGenerations.{KeptGeneration, before_switch}
use Rattle.tt_db.specs.Database.{Database, state_of}
use Rattle.tt_db.proofs.KeptLemmas.{found-kept}
use Rattle.tt_db.proofs.database.Db.closed_generation.Goals as goal

pub returns : goal.returns
returns c =
    let p = c.self.inside.parts in
    let number = c.args.number in
    subst (λ (db : Database). option_copied c.closed_of.result ≡ option_map (before_switch db.catalog) (find (λ (d : ClosedGeneration). d.number == number) (state_of db).closed)) c.self.view_is
    (
    c.closed_of.ensures
    ∙ ap (λ kept. option_map (λ (g : KeptGeneration). g.generations) (find (λ (g : KeptGeneration). g.number == number) kept)) c.self.invariant.closed
    ∙ found-kept p.generations.catalog number (after p.limits p.history).closed
    )
