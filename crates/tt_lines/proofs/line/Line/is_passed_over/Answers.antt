-- It is too long.
use Rattle.std.proofs.Common.{not, sym, ap, ◌∙◌}
use Rattle.std.proofs.lemmas.Bool.{and_left}
use Rattle.tt_requests.specs.Lines.{is_too_long, is_blank}
use Rattle.tt_lines.proofs.line.Line.is_passed_over.Goals as goal

pub returns-else-not-is_too_long : goal.returns-else-not-is_too_long
returns-else-not-is_too_long c = λ bytes has.
    let long = sym (c.is_too_long.ensures bytes has) ∙ c.if-not-is_too_long.false in
    ap not c.if-not-is_too_long.false ∙ sym (and_left (not (is_too_long bytes)) (is_blank bytes) (ap not long))
