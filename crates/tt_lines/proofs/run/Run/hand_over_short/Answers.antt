-- All that is kept is handed over, and then the short answer.
use Rattle.std.proofs.Common.{[], ◌∷◌, append_assoc, sym, ap, subst, ◌∙◌}
use Rattle.tt_session.specs.PendingLines.{no_lines}
use Rattle.tt_commands.proofs.ResultLemmas.{on_err}
use Rattle.tt_lines.proofs.run.Run.hand_over_short.Goals as goal

pub returns-in_err-hand_over-clause-err : goal.returns-in_err-hand_over-clause-err
returns-in_err-hand_over-clause-err g c = on_err c.from_residual.result (λ first start reads read more p short.
    subst (λ rs. g.O.Outlet.stopped first c.hand_over.new.outlet start rs) (sym (append_assoc reads (read ∷ []) more))
    (c.in_err-hand_over.ensures.err first start reads (read ∷ more) p))

pub returns-in-Ok-clause-ok : goal.returns-in-Ok-clause-ok
returns-in-Ok-clause-ok g c = λ first start reads read p short.
    c.in-Ok.ensures.handed first start reads (read ∷ []) (c.in_ok-hand_over.ensures.ok first start reads p) (record {
      text_is = c.as_bytes.ensures.value ∙ c.as_str.ensures.value ∙ c.text-text.ensures ∙ short.text_is;
      lines_are = λ log. c.lines.ensures [] (c.in_ok-hand_over.ensures.lines ∙ ap no_lines (p.lines_are log)) ∙ sym short.not_logged;
      plain = short.plain;
    })

pub returns-in-Err-clause-err : goal.returns-in-Err-clause-err
returns-in-Err-clause-err g c = λ first start reads read more p short.
    c.in-Err.ensures.stopped first start reads (read ∷ []) more (c.in_ok-hand_over.ensures.ok first start reads p) (record {
      text_is = c.as_bytes.ensures.value ∙ c.as_str.ensures.value ∙ c.text-text.ensures ∙ short.text_is;
      lines_are = λ log. c.lines.ensures [] (c.in_ok-hand_over.ensures.lines ∙ ap no_lines (p.lines_are log)) ∙ sym short.not_logged;
      plain = short.plain;
    })
