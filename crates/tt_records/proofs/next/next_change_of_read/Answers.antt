-- A select that is refused, memory aside, has no answer in the next generation.
use Rattle.tt_db.specs.Database.{state_of}
use Rattle.tt_records.proofs.ChangesLemmas.{no_change}
use Rattle.tt_records.proofs.NextLemmas.{refused_has_none}
use Rattle.tt_records.proofs.next.next_change_of_read.Goals as goal

pub returns-in-Err : goal.returns-in-Err
returns-in-Err c =
    let db = c.args.db.now in
    no_change _ c.no_answer.result _ _ c.no_answer.ensures.nothing c.no_answer.ensures.memory
    (λ some. refused_has_none db.catalog (state_of db) c.args.select.now c.args.time c.in-Err.error c.requires some c.in-Err.ensures.right)
