-- The line is answered, the next one is empty, and many bytes are handed over.
use Rattle.tt_commands.proofs.ResultLemmas.{on_ok, on_err, err_of}
use Rattle.tt_lines.proofs.RunningLemmas.{takes-one, takes-given, stops-between, stops-one}
use Rattle.tt_lines.proofs.run.Run.answer_line.Goals as goal

pub returns-in_err-answer_request-clause-err : goal.returns-in_err-answer_request-clause-err
returns-in_err-answer_request-clause-err g c = on_err c.from_residual.result (stops-one _ _ _ _ _ c.args.self.now c.in_err-answer_request.ensures.err)

pub returns-clause-ok : goal.returns-clause-ok
returns-clause-ok g c =
    on_ok c.hand_over_much.result (λ stands.
    let one = takes-one _ _ _ _ c.args.self.now c.answer_request.new.self c.begin_line.new.self c.in_ok-answer_request.ensures.ok
    c.begin_line.ensures.line c.begin_line.ensures.session c.begin_line.ensures.out c.begin_line.ensures.lines in
    takes-given _ _ _ _ _ _ c.args.self.now c.begin_line.new.self c.hand_over_much.new.self c.hand_over_much.ensures.session c.hand_over_much.ensures.line stands one) c.hand_over_much.ensures.stands

pub returns-clause-err : goal.returns-clause-err
returns-clause-err g c =
    err_of c.hand_over_much.result (λ stops.
    let one = takes-one _ _ _ _ c.args.self.now c.answer_request.new.self c.begin_line.new.self c.in_ok-answer_request.ensures.ok
    c.begin_line.ensures.line c.begin_line.ensures.session c.begin_line.ensures.out c.begin_line.ensures.lines in
    stops-between _ _ _ _ _ _ _ c.args.self.now c.begin_line.new.self one stops) c.hand_over_much.ensures.err
