-- The checkpoint leads to the database as it was before the line.
use Rattle.tt_session.proofs.RecoveryLemmas.{recoverable_behind}
use Rattle.tt_session.proofs.recoverable_session.Parts.write.Goals as goal

pub returns-then-self-clause-recoverable : goal.returns-then-self-clause-recoverable
returns-then-self-clause-recoverable c =
    let answered = c.answer_call-answered in
    recoverable_behind c.args.self.now.session answered.new.session c.args.self.now.checkpoint c.is_err-self.result c.args.asked answered.result
    c.requires.checkpoint c.requires.sound c.requires.plain answered.ensures.session answered.ensures.rest c.is_err-self.ensures.value

pub returns-else-is_of-clause-recoverable : goal.returns-else-is_of-clause-recoverable
returns-else-is_of-clause-recoverable c =
    let answered = c.answer_call-answered in
    recoverable_behind c.args.self.now.session answered.new.session c.args.self.now.checkpoint c.is_err-self.result c.args.asked answered.result
    c.requires.checkpoint c.requires.sound c.requires.plain answered.ensures.session answered.ensures.rest c.is_err-self.ensures.value
