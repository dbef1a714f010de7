-- What only reads leaves the database, and how its numbers are told.
use Rattle.std.proofs.Common.{ap, ◌∙◌}
use Rattle.tt_session.specs.declared.session.Session.TheVariants.{Open}
use Rattle.tt_session.proofs.BaseLemmas.{reads-stay, reads-tell}
use Rattle.tt_session.proofs.answering.answer_counted.Goals as goal

pub returns-in-Ok-clause-reads : goal.returns-in-Ok-clause-reads
returns-in-Ok-clause-reads c = λ reads.
    reads-stay c.args.session.now c.change.new.self c.args.asked (ap Open c.in-Ok.ensures.session ∙ c.in_ok-change.ensures.session) reads

pub returns-in-Ok-clause-told : goal.returns-in-Ok-clause-told
returns-in-Ok-clause-told c = λ reads.
    reads-tell c.args.session.now c.change.new.self c.args.asked (ap Open c.in-Ok.ensures.session ∙ c.in_ok-change.ensures.session) reads
