-- All that is kept is handed over.
use Rattle.std.proofs.Common.{sym, subst, ◌++◌, ◌∙◌}
use Rattle.tt_lines.proofs.run.Run.hand_over.Goals as goal

pub returns-in-Ok-clause-ok : goal.returns-in-Ok-clause-ok
returns-in-Ok-clause-ok g c = λ first start reads p.
    subst (λ rs. g.O.Outlet.handed first c.hand_over.new.self start rs) (sym p.reads_are)
    (c.in-Ok.ensures.handed first start p.over p.kept p.is_handed (record { text_is = c.as_slice.ensures.value ∙ p.text_is; lines_are = λ log. c.lines.ensures _ (p.lines_are log); plain = p.plain }))

pub returns-in-Err-clause-err : goal.returns-in-Err-clause-err
returns-in-Err-clause-err g c = λ first start reads more p.
    subst (λ rs. g.O.Outlet.stopped first c.hand_over.new.self start (rs ++ more)) (sym p.reads_are)
    (c.in-Err.ensures.stopped first start p.over p.kept more p.is_handed (record { text_is = c.as_slice.ensures.value ∙ p.text_is; lines_are = λ log. c.lines.ensures _ (p.lines_are log); plain = p.plain }))
