-- The next generation is as its slots done leave it, at each time.
use Rattle.std.proofs.Common.{◌≡◌, ◌≤◌, sym, subst, ◌∙◌}
use Rattle.tt_values.specs.Effect.{answer_of}
use Rattle.tt_generations.specs.TwoGenerations.{done_of, next_content_at}
use Rattle.tt_db.specs.State.{after, next_at}
use Rattle.tt_db.specs.Database.{Database, state_of, preview_at_for}
use Rattle.tt_db.specs.RightAnswers.{RowsHaveRisingKeys}
use Rattle.tt_db.proofs.KeyLemmas.{RowsHaveRisingKeys-next_at}
use Rattle.tt_db.proofs.database.Db.next_answer_at.Goals as goal

pub preview_at-requires : goal.preview_at-requires
preview_at-requires c =
    let in_state = subst (λ (db : Database). c.args.time ≤ done_of (state_of db).phase) (sym c.self.view_is) c.requires in
    subst (λ phase. c.args.time ≤ done_of phase) (sym c.self.invariant.phase) in_state

right : (c : goal.In_ok-reply) → let S = after c.self.inside.parts.limits c.self.inside.parts.history in c.in_ok-reply.reply ≡ answer_of c.args.select.now (next_at S c.args.time)
right c =
    let is = c.self.invariant in
    c.in_ok-reply.ensures ∙ (λ i. answer_of c.args.select.now (next_content_at (is.phase i) (is.slots i) c.args.time))

pub returns-clause-right : goal.returns-clause-right
returns-clause-right c = subst (λ (db : Database). c.in_ok-reply.reply ≡ preview_at_for db c.args.select.now c.args.time) c.self.view_is (right c)

pub returns-clause-keyed : goal.returns-clause-keyed
returns-clause-keyed c =
    let db = c.self.inside.parts in
    subst RowsHaveRisingKeys (sym (right c))
    (RowsHaveRisingKeys-next_at db.generations.catalog db.limits db.history c.args.select.now c.args.time c.self.invariant.catalog c.self.invariant.legal)
