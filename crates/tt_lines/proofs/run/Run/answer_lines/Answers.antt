-- The lines are answered, and then their answers are handed over.
use Rattle.tt_commands.proofs.ResultLemmas.{on_err, err_of, and_results}
use Rattle.tt_lines.proofs.RunningLemmas.{serves-rests, rests-serves, halts-between}
use Rattle.tt_lines.proofs.run.Run.answer_lines.Goals as goal

pub returns-in_err-take-clause-err : goal.returns-in_err-take-clause-err
returns-in_err-take-clause-err g c =
    on_err c.from_residual.result (λ first start given rests. c.in_err-take.ensures.err first start given (serves-rests _ _ _ _ start given c.args.self.now rests))

pub returns-clause-ok : goal.returns-clause-ok
returns-clause-ok g c =
    and_results c.hand_over.result c.hand_over.ensures.ok c.hand_over.ensures.out c.hand_over.ensures.lines (λ over out lines first start given rests.
    let serves = c.in_ok-take.ensures.ok first start given (serves-rests _ _ _ _ start given c.args.self.now rests) in
    rests-serves _ _ _ _ _ start _ c.take.new.self c.hand_over.new.self serves over c.hand_over.ensures.session c.hand_over.ensures.line out lines)

pub returns-clause-err : goal.returns-clause-err
returns-clause-err g c =
    err_of c.hand_over.result (λ stops first start given rests.
    let serves = c.in_ok-take.ensures.ok first start given (serves-rests _ _ _ _ start given c.args.self.now rests) in
    halts-between _ _ _ _ _ _ start _ c.take.new.self serves stops) c.hand_over.ensures.err
