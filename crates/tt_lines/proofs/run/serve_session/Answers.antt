-- The session begins with nothing read.
use Rattle.std.proofs.Common.{◌≡◌, [], Some, None, if◌then◌else◌, ap, ◌∙◌}
use Rattle.tt_lines.proofs.EndingLemmas.{rests-first}
use Rattle.tt_lines.proofs.run.serve_session.Goals as goal

pub returns-in-Ok-clause-ok : goal.returns-in-Ok-clause-ok
returns-in-Ok-clause-ok g c = λ first handed.
    let begun = c.new-run.ensures in
    let lines : g.O.Outlet.has_log → c.new-run.result.workspace.lines ≡ Some [] = λ log. begun.lines ∙ ap (λ b. if b then Some [] else None) (c.requires.log log) in
    c.in-Ok.ensures.ok first c.args.session (rests-first _ _ first c.args.outlet.now c.args.session c.new-run.result begun.line handed begun.session begun.out lines)

pub returns-in-Err-clause-fault : goal.returns-in-Err-clause-fault
returns-in-Err-clause-fault g c = λ first handed.
    let begun = c.new-run.ensures in
    let lines : g.O.Outlet.has_log → c.new-run.result.workspace.lines ≡ Some [] = λ log. begun.lines ∙ ap (λ b. if b then Some [] else None) (c.requires.log log) in
    c.in-Err.ensures.fault first c.args.session (rests-first _ _ first c.args.outlet.now c.args.session c.new-run.result begun.line handed begun.session begun.out lines)
