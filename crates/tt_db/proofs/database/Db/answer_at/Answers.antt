-- Each row of a legal history is stored under its key.
use Rattle.std.proofs.Common.{sym, ap, subst, ◌∙◌}
use Rattle.tt_values.specs.Effect.{answer_of}
use Rattle.tt_values.specs.RowWrites.{content_of}
use Rattle.tt_db.specs.RightAnswers.{RowsHaveRisingKeys}
use Rattle.tt_db.proofs.KeyLemmas.{RowsHaveRisingKeys-current}
use Rattle.tt_db.proofs.database.Db.answer_at.Goals as goal

pub returns-clause-keyed : goal.returns-clause-keyed
returns-clause-keyed c =
    let db = c.self.inside.parts in
    let q = c.args.select.now in
    let right = c.in_ok-reply.ensures ∙ ap (λ W. answer_of q (content_of W c.args.time)) c.self.invariant.slots in
    subst RowsHaveRisingKeys (sym right)
    (RowsHaveRisingKeys-current db.generations.catalog db.limits db.history q c.args.time c.self.invariant.catalog c.self.invariant.legal)
