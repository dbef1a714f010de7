-- What is kept of a line that isn't too long is the line.
use Rattle.std.proofs.Common.{◌∙◌}
use Rattle.tt_lines.proofs.LineLemmas.{kept-whole}
use Rattle.tt_lines.proofs.line.Line.bytes.Goals as goal

pub returns : goal.returns
returns c = λ bytes has short. kept-whole bytes _ (c.as_slice.ensures.value ∙ has.kept c.if-self.false) short
