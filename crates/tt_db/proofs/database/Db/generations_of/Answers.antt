-- A closed generation is kept with the tables before its switch.
use Rattle.std.proofs.Common.{◌≡◌, ◌==◌, find, sym, ap, subst, ◌∙◌}
use Rattle.std.specs.Option.{option_copied, option_map}
use Rattle.tt_generations.specs.TwoGenerations.{TwoGenerations}
use Rattle.tt_db.specs.State.{after}
use Rattle.tt_db.specs.ClosedGenerations.{KeptGeneration}
use Rattle.tt_db.specs.Database.{Database, generations_at}
use Rattle.tt_db.proofs.KeptLemmas.{found-kept, closed-tables, slots-in_tables}
use Rattle.tt_db.proofs.database.Db.generations_of.Goals as goal

tables_are : (c : goal.After-closed_of) → option_copied c.closed_of.result ≡ generations_at c.args.self.now c.args.number
tables_are c =
    let p = c.self.inside.parts in
    let is = c.self.invariant in
    let number = c.args.number in
    let db : Database = record { catalog = p.generations.catalog; limits = p.limits; history = p.history } in
    subst (λ (d : Database). option_copied c.closed_of.result ≡ generations_at d number) c.self.view_is
    (
    c.closed_of.ensures
    ∙ ap (λ kept. option_map (λ (g : KeptGeneration). g.generations) (find (λ (g : KeptGeneration). g.number == number) kept)) is.closed
    ∙ found-kept p.generations.catalog number (after p.limits p.history).closed
    ∙ closed-tables db number (λ same. c.if-number-self.false (same ∙ sym is.generation))
    )

pub returns-else-number-self-clause-slots : goal.returns-else-number-self-clause-slots
returns-else-number-self-clause-slots c = ap (option_map (λ (G : TwoGenerations). G.slots)) (tables_are c) ∙ slots-in_tables c.args.self.now c.args.number

pub returns-else-number-self-clause-generations : goal.returns-else-number-self-clause-generations
returns-else-number-self-clause-generations c = tables_are c
