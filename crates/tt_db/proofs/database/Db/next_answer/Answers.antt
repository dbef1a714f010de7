-- The next generation's rows are stored under their keys too.
use Rattle.std.proofs.Common.{◌≡◌, sym, ap, subst, ◌∙◌}
use Rattle.tt_values.specs.Effect.{answer_of}
use Rattle.tt_generations.specs.TwoGenerations.{done_of, next_content_at}
use Rattle.tt_db.specs.State.{after, next_at}
use Rattle.tt_db.specs.Database.{Database, preview_for}
use Rattle.tt_db.specs.RightAnswers.{RowsHaveRisingKeys}
use Rattle.tt_db.proofs.CurrentLemmas.{next_content-is}
use Rattle.tt_db.proofs.KeyLemmas.{RowsHaveRisingKeys-next}
use Rattle.tt_db.proofs.database.Db.next_answer.Goals as goal

right : (c : goal.In_ok-reply) → let S = after c.self.inside.parts.limits c.self.inside.parts.history in c.in_ok-reply.reply ≡ answer_of c.args.select.now (next_at S (done_of S.phase))
right c =
    let G = c.self.inside.parts.generations in
    let is = c.self.invariant in
    let q = c.args.select.now in
    c.in_ok-reply.ensures ∙ ap (answer_of q) (next_content-is G.phase G.slots)
    ∙ (λ i. answer_of q (next_content_at (is.phase i) (is.slots i) (done_of (is.phase i))))

pub returns-clause-right : goal.returns-clause-right
returns-clause-right c = subst (λ (db : Database). c.in_ok-reply.reply ≡ preview_for db c.args.select.now) c.self.view_is (right c)

pub returns-clause-keyed : goal.returns-clause-keyed
returns-clause-keyed c =
    let db = c.self.inside.parts in
    subst RowsHaveRisingKeys (sym (right c))
    (RowsHaveRisingKeys-next db.generations.catalog db.limits db.history c.args.select.now c.self.invariant.catalog c.self.invariant.legal)
