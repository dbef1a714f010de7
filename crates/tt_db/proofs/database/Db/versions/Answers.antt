-- The next side shows the next generation.
use Rattle.std.proofs.Common.{◌≤◌, ap, sym, subst, ◌∙◌}
use Rattle.tt_values.specs.Content.{row_at}
use Rattle.tt_generations.specs.TwoGenerations.{done_of, next_content_at}
use Rattle.tt_db.specs.State.{next_at}
use Rattle.tt_db.specs.Database.{Database, state_of}
use Rattle.tt_db.proofs.CurrentLemmas.{next_side-shows}
use Rattle.tt_db.proofs.database.Db.versions.Goals as goal

pub returns-then-from-len-clause-next : goal.returns-then-from-len-clause-next
returns-then-from-len-clause-next c = λ key time past.
    let G = c.self.inside.parts.generations in
    let is = c.self.invariant in
    let in_state = subst (λ (db : Database). time ≤ done_of (state_of db).phase) (sym c.self.view_is) past in
    let done = subst (λ phase. time ≤ done_of phase) (sym is.phase) in_state in
    ap (λ rows. rows key time) c.table.ensures.next
    ∙ next_side-shows G.catalog G.phase G.slots c.args.table key time is.within done
    ∙ (λ i. row_at (next_content_at (is.phase i) (is.slots i) time c.args.table) key)
    ∙ ap (λ (db : Database). row_at (next_at (state_of db) time c.args.table) key) c.self.view_is
